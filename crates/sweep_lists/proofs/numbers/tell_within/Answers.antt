use Rattle.std.proofs.Common.{Bool, arith}
use Rattle.std.proofs.Math.ListN.{length-set}
use Rattle.sweep_lists.proofs.Members.{told_more}
use Rattle.sweep_lists.proofs.numbers.tell_within.Goals as goal

pub loop-item-preserved : goal.loop-item-preserved
loop-item-preserved c = λ i inside. told_more c.args.items.now c.args.seen.now c.loop-item.seen c.loop-item.item-index 0 c.loop-item-test.true c.loop-item.invariant i (omega (arith, length-set {A = Bool}))
