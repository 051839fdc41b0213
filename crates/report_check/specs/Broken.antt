-- The first rule that a report breaks, and the first line that breaks it.
use Rattle.std.specs.Prelude.{◌≡◌, ℕ, ◌-◌, ◌≤◌, List}
use Rattle.trace_reader.specs.declared.trace.Trace.{Trace}
use Rattle.cycle_history.specs.declared.Report.{Report}
use Rattle.cycle_history.specs.Requests.{marked_by, last_cycle}
use Rattle.cycle_history.specs.Objects.{Object}
use Rattle.cycle_history.specs.Sound.{past_in}
use Rattle.cycle_history.specs.Broken.{MeetsUpTo}
use Rattle.report_check.specs.Lines.{IsLeast}
use Rattle.report_check.specs.Answers.{BreaksAnswers, BreaksJournal, BreaksMisses}
use Rattle.report_check.specs.Placing.{BreaksPlaces, BreaksApart, BreaksFilling}
use Rattle.report_check.specs.Closing.{BreaksSweeps, BreaksTotals}
use Rattle.report_check.specs.Published.{BreaksProfile}

-- The line breaks rule n.
pub record Breaks (n : ℕ) (t : Trace) (report : Report) (objects : List Object) (line : ℕ) : Type 0 where
  pub some : 1 ≤ n
  pub few : n ≤ 9
  pub answers : n ≡ 1 → BreaksAnswers t report line
  pub journal : n ≡ 2 → BreaksJournal t report line
  pub misses : n ≡ 3 → BreaksMisses (past_in report) objects line
  pub places : n ≡ 4 → BreaksPlaces (marked_by t) (past_in report) objects line
  pub apart : n ≡ 5 → BreaksApart (marked_by t) objects line
  pub filling : n ≡ 6 → BreaksFilling (marked_by t) objects line
  pub sweeps : n ≡ 7 → BreaksSweeps (marked_by t) (last_cycle t) report objects line
  pub totals : n ≡ 8 → BreaksTotals (marked_by t) (last_cycle t) report objects line
  pub profile : n ≡ 9 → BreaksProfile t report objects line

-- A report is broken at a line of rule n where it meets the rules before it, by some objects with their seats, and the
-- line is the least that breaks rule n.
pub record IsBrokenBy (t : Trace) (report : Report) (objects : List Object) (n line : ℕ) : Type 0 where
  pub before : MeetsUpTo (n - 1) t report objects
  pub first : IsLeast (Breaks n t report objects) line

-- Some objects show that this is the first rule that the report breaks, and the first line that breaks it.
abbrev pub IsBroken : Trace → Report → ℕ → ℕ → Type 0
IsBroken t report n line = (objects : List Object) × IsBrokenBy t report objects n line
