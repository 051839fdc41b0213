use Rattle.std.proofs.Common.{arith}
use Rattle.sweep_lists.proofs.Members.{stride_more}
use Rattle.sweep_lists.proofs.numbers.strides_told.Goals as goal

pub loop-end-preserved : goal.loop-end-preserved
loop-end-preserved c = record {
  inside = omega arith;
  told = stride_more c.args.seen.now c.loop-end.end (omega arith) c.loop-end.invariant.told c.if-not-contains.ensures.cases;
}
