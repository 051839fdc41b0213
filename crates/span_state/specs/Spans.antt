-- What contracts see of a span's body.
use Rattle.std.specs.Prelude.{◌≡◌, ℕ, Bool}
use Rattle.span_state.specs.declared.body.Body.{Body}
use Rattle.span_state.specs.Bits.{bit_of}

-- whether the index `k` of the span is allocated
abbrev pub allocated : Body → ℕ → Bool
allocated body k = bit_of body.bits k

-- The two bodies are of one span: they differ at most in what is allocated and in the free index.
pub record IsSameSpan (old new : Body) : Type 0 where
  pub page : new.page ≡ old.page
  pub pages : new.pages ≡ old.pages
  pub slot : new.slot ≡ old.slot
  pub count : new.count ≡ old.count
  pub class : new.class ≡ old.class
  pub life : new.life ≡ old.life
