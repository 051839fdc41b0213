-- What a reset of all unswept sets did.
use Rattle.std.specs.Prelude.{◌≡◌, ℕ, ◌<◌, true, false, List, ◌++◌}
use Rattle.sweep_laws.specs.Lists.{has}
use Rattle.sweep_laws.specs.Reading.{is_swept_set}
use Rattle.span_laws.specs.declared.said.Said.TheVariants.{Reads}
use Rattle.span_laws.specs.Views.{Seen, acts}
use Rattle.span_laws.specs.OwnSteps.{after_said}

-- a worker that reset these sets besides
abbrev pub with_resets : List ℕ → Seen → Seen
with_resets sets w = record w { view = acts w.view (record w.view.own { reset = w.view.own.reset ++ sets }) }

-- the driver read the generation and reset some sets, all of them unswept; each unswept set below n is reset
pub record ResetsBelow (n : ℕ) (old new : Seen) : Type 0 where
  pub sets : List ℕ
  pub unswept : (k : ℕ) → k < n → is_swept_set old.view.generation k ≡ false → has k new.view.own.reset ≡ true
  pub only : (k : ℕ) → has k sets ≡ true → is_swept_set old.view.generation k ≡ false
  pub view : new ≡ with_resets sets (after_said (Reads 1 old.view.generation) old)

-- so all unswept sets are reset
abbrev pub Resets : Seen → Seen → Type 0
Resets old new = ResetsBelow 544 old new
