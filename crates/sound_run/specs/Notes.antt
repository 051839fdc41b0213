-- What a run with mark ends keeps of its sweeps, beside what `Run.antt` says of its objects. Notes have the newest first.
use Rattle.std.specs.Prelude.{◌≡◌, ℕ, suc, ◌<◌, ◌≤◌, List, ◌⊎◌}
use Rattle.page_bitmap.specs.declared.line.Line.{Line}
use Rattle.page_alloc.specs.Lists.{In, AllApart}
use Rattle.page_alloc.specs.Lives.{Life}
use Rattle.span_state.specs.declared.sweep.SweepNote.{SweepNote}
use Rattle.cycle_history.specs.Requests.{Marking}
use Rattle.cycle_history.specs.Objects.{Object, kept}
use Rattle.cycle_history.specs.Orders.{IsSweepBefore}
use Rattle.cycle_history.specs.Sweeps.{IsOpenAfter, IsUsedAgain, IsNote, GivesWhenEmpty}

-- A life that was open at the end of cycle m is done in cycle m + 1 where it has its note, and where nothing of it is
-- kept, it was given back or used again.
pub record IsDone (marked : Marking) (past : List Line) (objects : List Object) (notes : List SweepNote) (m : ℕ) (life : Life) : Type 0 where
  pub note : (note : SweepNote) × In note notes × IsNote marked objects (suc m) life note
  pub empty : kept marked objects (suc m) life.number ≡ 0 → (¬ IsOpenAfter past (suc m) life) ⊎ IsUsedAgain objects (suc m) life

-- Each life that was open at the end of cycle m is done.
abbrev pub AllDone : Marking → List Line → List Object → List SweepNote → ℕ → Type 0
AllDone marked past objects notes m = (life : Life) → IsOpenAfter past m life → IsDone marked past objects notes m life

-- A note is one of a mark end before the end of cycle c.
pub record IsNoted (marked : Marking) (c : ℕ) (past : List Line) (objects : List Object) (note : SweepNote) (m : ℕ) (life : Life) : Type 0 where
  pub early : m < c
  pub alive : IsOpenAfter past m life
  pub right : IsNote marked objects (suc m) life note

-- The notes of a run of cycle c, after which all sweeps of the mark ends 1 to `ended` are done.
pub record HasNotes (marked : Marking) (c ended : ℕ) (past : List Line) (objects : List Object) (notes : List SweepNote) : Type 0 where
  pub early : ended ≤ c
  pub noted : (note : SweepNote) → In note notes → (m : ℕ) × (life : Life) × IsNoted marked c past objects note m life
  pub done : (m : ℕ) → m < ended → AllDone marked past objects notes m
  pub gives : GivesWhenEmpty marked objects past
  pub order : AllApart (λ (newer older : SweepNote). IsSweepBefore older newer) notes
