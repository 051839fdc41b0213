use Rattle.std.proofs.Common.{arith}
use Rattle.span_state.proofs.Pairs.{pushed-bit, pushed-bits, room-bit}
use Rattle.span_state.proofs.marks.push_all.Goals as goal

pub push_reserved-requires : goal.push_reserved-requires
push_reserved-requires c =
    let more = room-bit c.args.pairs.now.items c.loop-bit.pairs.items c.loop-bit.bit c.args.page c.args.group _ c.loop-bit-test.true c.loop-bit.invariant.items c.requires.room in
    omega arith

pub loop-bit-preserved : goal.loop-bit-preserved
loop-bit-preserved c = record {
  items = pushed-bit _ _ _ c.loop-bit.bit c.args.page c.args.group c.loop-bit-test.true c.loop-bit.invariant.items c.push_reserved.ensures.items;
  room = (let same = c.push_reserved.ensures.capacity in let so_far = c.loop-bit.invariant.room in omega arith);
}

pub returns-clause-items : goal.returns-clause-items
returns-clause-items c = pushed-bits _ _ c.loop-bit.bit c.args.page c.args.group (omega arith) c.loop-bit.invariant.items
