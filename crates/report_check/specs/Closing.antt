-- Which lines break the rules 7 and 8: sweeps and totals.
use Rattle.std.specs.Prelude.{◌≡◌, ℕ, suc, ◌/◌, ◌<◌, true, List, take, Some, ◌⊎◌}
use Rattle.std.specs.List.{slice_get}
use Rattle.page_bitmap.specs.declared.line.Line.TheVariants.{Give}
use Rattle.page_alloc.specs.Lists.{In}
use Rattle.page_alloc.specs.Lives.{Life, open_lives}
use Rattle.page_alloc.specs.Journal.{past_of}
use Rattle.span_state.specs.declared.sweep.SweepNote.{SweepNote}
use Rattle.cycle_history.specs.declared.Total.{Total}
use Rattle.cycle_history.specs.declared.Report.{Report}
use Rattle.cycle_history.specs.Requests.{Marking}
use Rattle.cycle_history.specs.Objects.{Object, is_placed, kept}
use Rattle.cycle_history.specs.Orders.{IsSweepBefore, IsTotalBefore}
use Rattle.cycle_history.specs.Sweeps.{IsOpenAfter, IsUsedAgain, IsNote, IsTotal}
use Rattle.cycle_history.specs.Sound.{past_in}
use Rattle.report_check.specs.Lines.{journal_at, sweep_at, total_at, end_of}

-- The Give on journal line n may give the life back: the mark end of its cycle found the life alive, and the life's sweep
-- of that cycle prints that nothing was kept.
pub record MayGive (report : Report) (n cycle page : ℕ) : Type 0 where
  pub life : Life
  pub alive : In life (open_lives (past_of (take n report.journal)))
  pub its : life.page ≡ page
  pub older : life.cycle < cycle
  pub note : SweepNote
  pub printed : In note report.sweeps
  pub swept : note.cycle ≡ cycle
  pub here : note.page ≡ page
  pub empty : note.kept ≡ 0

-- A Give that may not give its life back stands on this line.
pub record IsWrongGive (report : Report) (line n : ℕ) : Type 0 where
  pub cycle : ℕ
  pub page : ℕ
  pub pages : ℕ
  pub printed : slice_get report.journal n ≡ Some (Give cycle page pages)
  pub wrong : ¬ MayGive report n cycle page
  pub stands : line ≡ journal_at report n

-- A sweep is right where it is that of a life that its mark end found alive, and where nothing was kept, the life is
-- given back in that cycle, or an object of that cycle is placed in it.
pub record IsRightSweep (marked : Marking) (last : ℕ) (report : Report) (objects : List Object) (note : SweepNote) : Type 0 where
  pub before : ℕ
  pub life : Life
  pub inside : before < last
  pub alive : IsOpenAfter (past_in report) before life
  pub counts : IsNote marked objects (suc before) life note
  pub empty : kept marked objects (suc before) life.number ≡ 0
      → (¬ IsOpenAfter (past_in report) (suc before) life) ⊎ IsUsedAgain objects (suc before) life

-- An item at an earlier place of the list isn't before the one at place k.
pub record IsOutOfOrder {X : Type 0} (IsBefore : X → X → Type 0) (xs : List X) (k : ℕ) (x : X) : Type 0 where
  pub place : ℕ
  pub earlier : X
  pub among : slice_get xs place ≡ Some earlier
  pub before : place < k
  pub wrong : ¬ IsBefore earlier x

-- A sweep that isn't right, or is out of order, stands on this line.
pub record IsWrongSweep (marked : Marking) (last : ℕ) (report : Report) (objects : List Object) (line k : ℕ) : Type 0 where
  pub note : SweepNote
  pub printed : slice_get report.sweeps k ≡ Some note
  pub wrong : (¬ IsRightSweep marked last report objects note) ⊎ IsOutOfOrder IsSweepBefore report.sweeps k note
  pub stands : line ≡ sweep_at report k

-- A life that a mark end finds alive has no sweep in the cycle behind it.
pub record IsUnswept (last : ℕ) (report : Report) (before : ℕ) (life : Life) : Type 0 where
  pub inside : before < last
  pub alive : IsOpenAfter (past_in report) before life
  pub missing : (note : SweepNote) → In note report.sweeps → note.cycle ≡ suc before → ¬ (note.page ≡ life.page)

-- Rule 7 is broken by the line of a Give that may not be, by that of a sweep that isn't right, and by `end` where a life
-- has no sweep.
abbrev pub BreaksSweeps : Marking → ℕ → Report → List Object → ℕ → Type 0
BreaksSweeps marked last report objects line = ((n : ℕ) × IsWrongGive report line n)
    ⊎ (((k : ℕ) × IsWrongSweep marked last report objects line k)
    ⊎ ((before : ℕ) × (life : Life) × IsUnswept last report before life × (line ≡ end_of report)))

-- A total that isn't right, or is out of order, stands on this line.
pub record IsWrongTotal (marked : Marking) (last : ℕ) (report : Report) (objects : List Object) (line k : ℕ) : Type 0 where
  pub total : Total
  pub printed : slice_get report.totals k ≡ Some total
  pub wrong : (¬ IsTotal marked last objects total) ⊎ IsOutOfOrder IsTotalBefore report.totals k total
  pub stands : line ≡ total_at report k

-- No total is of the placed object's size class.
pub record IsUncounted (report : Report) (objects : List Object) (o : Object) : Type 0 where
  pub among : In o objects
  pub placed : is_placed o.answer ≡ true
  pub missing : (total : Total) → In total report.totals → ¬ (total.class ≡ o.need.class / 2)

-- Rule 8 is broken by the line of a total that isn't right, and by `end` where a size class of a placed object has none.
abbrev pub BreaksTotals : Marking → ℕ → Report → List Object → ℕ → Type 0
BreaksTotals marked last report objects line = ((k : ℕ) × IsWrongTotal marked last report objects line k)
    ⊎ ((o : Object) × IsUncounted report objects o × (line ≡ end_of report))
