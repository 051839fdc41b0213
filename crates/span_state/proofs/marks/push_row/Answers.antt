use Rattle.std.proofs.Common.{◌+◌, arith}
use Rattle.span_state.proofs.Pairs.{pushed-group, room-group}
use Rattle.span_state.proofs.marks.push_row.Goals as goal

pub push_group-requires-clause-room : goal.push_group-requires-clause-room
push_group-requires-clause-room c =
    let all = c.requires.room in
    let long = c.near-near.ensures.len in
    let same = c.loop-group.invariant.room in
    room-group c.args.row.now c.loop-group.group c.args.page _ _ _ _ (omega arith) (c.near-near.ensures.words c.loop-group.group c.loop-group-test.true) c.loop-group.invariant.items (omega arith)

pub push_group-requires-in-loop-group-2-clause-room : goal.push_group-requires-in-loop-group-2-clause-room
push_group-requires-in-loop-group-2-clause-room c =
    let all = c.requires.room in
    let same = c.loop-group-2.invariant.room in
    room-group c.args.row.now (16 + c.loop-group-2.group) c.args.page _ _ _ _ (omega arith) (c.far-far.ensures.words c.loop-group-2.group) c.loop-group-2.invariant.items (omega arith)

pub loop-group-2-preserved : goal.loop-group-2-preserved
loop-group-2-preserved c = record {
  items = pushed-group c.args.row.now (16 + c.loop-group-2.group) (16 + (c.loop-group-2.group + 1)) c.args.page _ _ _ _ (omega arith) (c.far-far.ensures.words c.loop-group-2.group) c.loop-group-2.invariant.items c.push_group-in-loop-group-2.ensures.items;
  room = (let same = c.push_group-in-loop-group-2.ensures.capacity in let so_far = c.loop-group-2.invariant.room in omega arith);
}
