use Rattle.std.proofs.Common.{◌-◌}
use Rattle.sweep_lists.specs.Tables.{AreMembers}
use Rattle.sweep_lists.proofs.indices.first_beyond.Given as goal

abbrev pub invariant-loop-free : goal.invariant-loop-free
invariant-loop-free l = AreMembers l.free l.numbers.items

abbrev pub decreases-loop-free : goal.decreases-loop-free
decreases-loop-free l = 4294967295 - l.free
