use Rattle.std.proofs.Common.{◌<◌, vec_capacity, arith, w64}
use Rattle.std.proofs.lemmas.Nat.Bits.{bit_at-trailing_zeros}
use Rattle.span_state.proofs.Indices.{pushed-each, pushed-index, room-index}
use Rattle.span_state.proofs.Pairs.{without-lowest}
use Rattle.span_state.proofs.marks.push_bits.Goals as goal

pub push_reserved-requires : goal.push_reserved-requires
push_reserved-requires c =
    let some : 0 < c.loop-left.left = omega arith in
    let lowest = bit_at-trailing_zeros w64 c.loop-left.left some (omega arith) in
    let all = c.requires.room 0 in
    let same = c.loop-left.invariant.room in
    let few = room-index c.args.indices.now.items c.loop-left.indices.items 0 c.args.group c.args.word c.loop-left.left _ (vec_capacity c.args.indices.now) lowest.0 lowest.1 lowest.2 (c.loop-left.invariant.items 0) all in
    omega arith

pub loop-left-preserved : goal.loop-left-preserved
loop-left-preserved c =
    let some : 0 < c.loop-left.left = omega arith in
    let lowest = bit_at-trailing_zeros w64 c.loop-left.left some (omega arith) in
    let left = without-lowest c.loop-left.left _ (omega arith) lowest.0 lowest.1 lowest.2 in
    record {
      items = λ page. rw left (pushed-index _ _ _ page c.args.group c.loop-left.left _ lowest.0 lowest.1 lowest.2 (c.loop-left.invariant.items page) c.push_reserved.ensures.items);
      room = (let same = c.push_reserved.ensures.capacity in let so_far = c.loop-left.invariant.room in omega arith);
    }

pub returns-clause-items : goal.returns-clause-items
returns-clause-items c = λ page. pushed-each _ _ page c.args.group c.loop-left.left (omega arith) (c.loop-left.invariant.items page)
