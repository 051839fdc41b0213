use Rattle.std.proofs.Common.{◌<◌, length, rules}
use Rattle.span_state.proofs.Pairs.{room-page}
use Rattle.span_state.proofs.marks.Marks.pairs.Goals as goal

pub push_row-requires-clause-room : goal.push_row-requires-clause-room
push_row-requires-clause-room c =
    let lt : c.loop-page.page < length c.self.inside.rows = search rules in
    room-page c.self.inside.rows c.in-Some.row.now c.loop-page.page _ _ lt c.in-Some.ensures c.loop-page.invariant.items c.loop-page.invariant.room
