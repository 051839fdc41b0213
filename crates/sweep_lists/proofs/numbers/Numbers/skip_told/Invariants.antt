use Rattle.std.proofs.Common.{◌≤◌, ◌-◌}
use Rattle.sweep_lists.specs.Tables.{AreMembers}
use Rattle.sweep_lists.proofs.numbers.Numbers.skip_told.Given as goal

abbrev pub invariant-loop-free : goal.invariant-loop-free
invariant-loop-free l = record {
  fits : l.free ≤ 4294967295;
  below : AreMembers l.free l.self.items;
}

abbrev pub decreases-loop-free : goal.decreases-loop-free
decreases-loop-free l = l.bound - l.free
