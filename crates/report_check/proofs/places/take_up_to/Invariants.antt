use Rattle.std.proofs.Common.{◌-◌, ◌≤◌, take, length}
use Rattle.page_alloc.specs.Journal.{IsBy, past_of}
use Rattle.cycle_history.specs.Requests.{region_of}
use Rattle.report_check.specs.Lives.{AreLives}
use Rattle.report_check.proofs.places.take_up_to.Given as goal

-- the table has the lives that are open after the lines so far
abbrev pub invariant-loop-next : goal.invariant-loop-next
invariant-loop-next l = record {
  next : l.next ≤ length l.journal;
  by : IsBy l.cycle (past_of (take l.next l.journal));
  lives : AreLives (region_of l.trace) (past_of (take l.next l.journal)) l.lives;
}

abbrev pub decreases-loop-next : goal.decreases-loop-next
decreases-loop-next l = length l.journal - l.next
