use Rattle.std.proofs.Common.{◌-◌, ◌≤◌, List}
use Rattle.cycle_history.specs.declared.Report.{Report}
use Rattle.cycle_history.specs.Sound.{HasAnswers}
use Rattle.report_check.specs.declared.items.Item.{Item}
use Rattle.report_check.specs.Items.{objects_of}
use Rattle.report_check.specs.Lasts.{AreLastsTo}
use Rattle.report_check.proofs.lasts.lasts_of.Given as goal

-- the last cycles by the mark ends so far, of the items of any report
abbrev pub invariant-loop-mark : goal.invariant-loop-mark
invariant-loop-mark l = record {
  some : 1 ≤ l.mark;
  lasts : (report : Report) (items : List Item) → HasAnswers l.trace report (objects_of items) → AreLastsTo l.trace items l.lasts.items (l.mark - 1);
}
