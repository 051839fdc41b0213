-- Which sweeps are printed: whether each is right and in its order, which life lacks one, and which Give may be.
use Rattle.std.specs.Prelude.{◌≡◌, ℕ, suc, ◌+◌, ◌*◌, ◌^◌, ◌<◌, ◌≤◌, List, length, Option, Some, None, slice_index_or, ◌⊎◌}
use Rattle.std.specs.List.{slice_get}
use Rattle.page_bitmap.specs.declared.line.Line.TheVariants.{Give}
use Rattle.page_alloc.specs.Lists.{In}
use Rattle.page_alloc.specs.Lives.{Life}
use Rattle.span_state.specs.declared.sweep.SweepNote.{SweepNote}
use Rattle.trace_reader.specs.declared.trace.Trace.{Trace}
use Rattle.cycle_history.specs.declared.Report.{Report}
use Rattle.cycle_history.specs.Requests.{last_cycle, marked_by}
use Rattle.cycle_history.specs.Objects.{Object}
use Rattle.cycle_history.specs.Orders.{IsSweepBefore}
use Rattle.cycle_history.specs.Sweeps.{IsOpenAfter}
use Rattle.cycle_history.specs.Sound.{past_in}
use Rattle.report_check.specs.Closing.{IsOutOfOrder, IsRightSweep, IsUnswept, MayGive}
use Rattle.report_check.specs.declared.lives.OpenLife.{OpenLife}

-- A sweep's cycle and page as one number.
abbrev pub key_of : ℕ → ℕ → ℕ
key_of cycle page = cycle * 2 ^ 32 + page

-- A sweep of the cycle and page is printed, of which a test holds.
abbrev pub HasNote : (SweepNote → Type 0) → List SweepNote → ℕ → ℕ → Type 0
HasNote test sweeps cycle page = (note : SweepNote) × In note sweeps × (note.cycle ≡ cycle) × (note.page ≡ page) × test note

-- The table has a life of an earlier cycle at the page, and a sweep of the cycle prints that it kept nothing there.
pub record CanGive (lives : List (Option OpenLife)) (sweeps : List SweepNote) (cycle page : ℕ) : Type 0 where
  pub life : OpenLife
  pub here : slice_index_or lives page None ≡ Some life
  pub older : life.cycle < cycle
  pub emptied : HasNote (λ note. note.kept ≡ 0) sweeps cycle page

-- Each Give of the journal may be.
abbrev pub AllMayGive : Report → Type 0
AllMayGive report = (n cycle page pages : ℕ) → slice_get report.journal n ≡ Some (Give cycle page pages) → MayGive report n cycle page

-- Each sweep is right, and they stand in order.
pub record AreRightTo (t : Trace) (report : Report) (objects : List Object) (n : ℕ) : Type 0 where
  pub right : (k : ℕ) (note : SweepNote) → k < n → slice_get report.sweeps k ≡ Some note → IsRightSweep (marked_by t) (last_cycle t) report objects note
  pub order : (j k : ℕ) (earlier note : SweepNote) → j < k → k < n → slice_get report.sweeps j ≡ Some earlier → slice_get report.sweeps k ≡ Some note → IsSweepBefore earlier note

-- The sweep at place n is the first that isn't right, or is out of order.
pub record IsFirstWrong (t : Trace) (report : Report) (objects : List Object) (n : ℕ) : Type 0 where
  pub note : SweepNote
  pub here : slice_get report.sweeps n ≡ Some note
  pub wrong : (¬ IsRightSweep (marked_by t) (last_cycle t) report objects note) ⊎ IsOutOfOrder IsSweepBefore report.sweeps n note
  pub before : AreRightTo t report objects n

-- Each life that a mark end finds alive has a sweep in the cycle behind it.
abbrev pub AllSwept : Trace → Report → Type 0
AllSwept t report = (m : ℕ) (life : Life) → m < last_cycle t → IsOpenAfter (past_in report) m life → HasNote (λ note. Unit {0}) report.sweeps (suc m) life.page

-- One has none.
abbrev pub LacksSweep : Trace → Report → Type 0
LacksSweep t report = (before : ℕ) × (life : Life) × IsUnswept (last_cycle t) report before life

-- The sweeps up to place n stand in order, and the one there, if there is one, doesn't.
pub record IsDisorder (sweeps : List SweepNote) (n : ℕ) : Type 0 where
  pub few : n ≤ length sweeps
  pub order : (j k : ℕ) (earlier note : SweepNote) → j < k → k < n → slice_get sweeps j ≡ Some earlier → slice_get sweeps k ≡ Some note → IsSweepBefore earlier note
  pub wrong : (note : SweepNote) → slice_get sweeps n ≡ Some note → IsOutOfOrder IsSweepBefore sweeps n note
