-- Which rule a report breaks first.
use Rattle.std.specs.Prelude.{ℕ, ◌-◌, ◌≤◌, List}
use Rattle.trace_reader.specs.declared.trace.Trace.{Trace}
use Rattle.cycle_history.specs.declared.Report.{Report}
use Rattle.cycle_history.specs.Requests.{marked_by, last_cycle}
use Rattle.cycle_history.specs.Objects.{Object}
use Rattle.cycle_history.specs.Rules.{AreMissed, AreSeated, AreApart, AreFilled}
use Rattle.cycle_history.specs.Sweeps.{AreSwept, AreTotals}
use Rattle.cycle_history.specs.Sound.{past_in, HasAnswers, HasJournal, HasProfile}

-- A report meets the rules up to number n, by these objects with their seats.
pub record MeetsUpTo (n : ℕ) (t : Trace) (report : Report) (objects : List Object) : Type 0 where
  pub answers : 1 ≤ n → HasAnswers t report objects
  pub journal : 2 ≤ n → HasJournal t report
  pub misses : 3 ≤ n → AreMissed (past_in report) objects
  pub places : 4 ≤ n → AreSeated (marked_by t) (past_in report) objects
  pub apart : 5 ≤ n → AreApart (marked_by t) objects
  pub filling : 6 ≤ n → AreFilled (marked_by t) objects
  pub sweeps : 7 ≤ n → AreSwept (marked_by t) (last_cycle t) (past_in report) objects report.sweeps
  pub totals : 8 ≤ n → AreTotals (marked_by t) (last_cycle t) objects report.totals
  pub profile : 9 ≤ n → HasProfile t report objects

-- Some objects show that a report meets the rules up to number n.
abbrev pub MeetsRules : ℕ → Trace → Report → Type 0
MeetsRules n t report = (objects : List Object) × MeetsUpTo n t report objects

-- Rule n is the first that a report breaks: it meets those below n, and not those up to n.
pub record IsFirstBroken (n : ℕ) (t : Trace) (report : Report) : Type 0 where
  pub some : 1 ≤ n
  pub before : MeetsRules (n - 1) t report
  pub broken : ¬ MeetsRules n t report
