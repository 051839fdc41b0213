-- What calls ask of a body alone: what of it is allocated, and where it lies.
use Rattle.std.specs.Prelude.{◌≡◌, ℕ, ◌<◌, true, false, List}
use Rattle.span_state.specs.Bits.{IsFull}
use Rattle.span_state.specs.MarkSet.{has_pair}
use Rattle.span_state.specs.Spans.{allocated}
use Rattle.span_state.specs.declared.body.Body.{Body}
use Rattle.span_laws.specs.declared.view.Span.{Span}

-- an object is allocated
abbrev pub IsUsed : Body → Type 0
IsUsed b = (k : ℕ) × (k < b.count) × (allocated b k ≡ true)

-- an index is free
abbrev pub HasRoom : Body → Type 0
HasRoom b = (k : ℕ) × (k < b.count) × (allocated b k ≡ false)

-- all indices are allocated
abbrev pub IsFullBody : Body → Type 0
IsFullBody b = IsFull b.count (allocated b)

-- nothing is allocated
abbrev pub IsEmptyBody : Body → Type 0
IsEmptyBody b = (k : ℕ) → allocated b k ≡ false

-- the body as the worker got it lies where the body lies now: only what is allocated and the free index differ
pub record IsSpanOf (s : Span) (b : Body) : Type 0 where
  pub page : s.page ≡ b.page
  pub pages : s.pages ≡ b.pages
  pub slot : s.slot ≡ b.slot
  pub count : s.count ≡ b.count
  pub class : s.class ≡ b.class
  pub life : s.life ≡ b.life

-- the body has just the marked indices of its page
abbrev pub HasMarks : List (ℕ × ℕ) → Body → Type 0
HasMarks marks b = (k : ℕ) → allocated b k ≡ has_pair marks b.page k

-- each marked index of the page is allocated
abbrev pub HasMarked : List (ℕ × ℕ) → Body → Type 0
HasMarked marks b = (k : ℕ) → has_pair marks b.page k ≡ true → allocated b k ≡ true
