use Rattle.std.proofs.Common.{◌≡◌, ◌≤◌, take, length}
use Rattle.page_alloc.specs.Journal.{IsBy, past_of}
use Rattle.cycle_history.specs.Before.{objects_before}
use Rattle.cycle_history.specs.Requests.{region_of}
use Rattle.report_check.specs.Lives.{AreLives}
use Rattle.report_check.proofs.Settled.{AreSettled}
use Rattle.report_check.proofs.places.judge_places.Given as goal

-- the items of the cycles so far have their seats
abbrev pub invariant-loop-part : goal.invariant-loop-part
invariant-loop-part l = record {
  cycle : l.cycle ≡ l.part-index;
  next : l.next ≤ length l.report.journal;
  by : IsBy l.cycle (past_of (take l.next l.report.journal));
  lives : AreLives (region_of l.trace) (past_of (take l.next l.report.journal)) l.lives.items;
  first : l.first ≡ objects_before l.trace l.part-index;
  settled : AreSettled l.trace l.report l.fn.items l.items l.part-index l.bound;
}
