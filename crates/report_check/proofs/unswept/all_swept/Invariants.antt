use Rattle.std.proofs.Common.{ℕ, suc, ◌-◌, ◌<◌, ◌≤◌}
use Rattle.page_alloc.specs.Lives.{Life}
use Rattle.cycle_history.specs.Sweeps.{IsOpenAfter}
use Rattle.cycle_history.specs.Sound.{past_in}
use Rattle.report_check.specs.Ledgers.{IsOpenTo}
use Rattle.report_check.specs.Sweeping.{HasNote}
use Rattle.report_check.proofs.unswept.all_swept.Given as goal

-- the lives that the mark ends so far found alive have sweeps
abbrev pub invariant-loop-cycle : goal.invariant-loop-cycle
invariant-loop-cycle l = record {
  some : 1 ≤ l.cycle;
  opened : IsOpenTo l.trace l.report (l.cycle - 1) l.opened;
  all : (m : ℕ) (life : Life) → suc m < l.cycle → IsOpenAfter (past_in l.report) m life → HasNote (λ note. Unit {0}) l.report.sweeps (suc m) life.page;
}
