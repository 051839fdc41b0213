use Rattle.std.proofs.Common.{◌≡◌, ◌+◌, length, rules, arith}
use Rattle.edge_io.proofs.Waits.{waits-push}
use Rattle.edge_io.proofs.output.waiting.Waiting.push.Goals as goal

pub returns-clause-bytes : goal.returns-clause-bytes
returns-clause-bytes c =
    let len : length c.self.inside.buffer ≡ 32768 = search rules in
    rw (← c.self.view_is, c.copy_from_slice.ensures.after) (waits-push c.self.inside.start c.self.inside.end _ (c.self.inside.end + length c.args.piece.now) c.self.inside.buffer c.args.piece.now c.self.invariant.0 (omega arith) (omega arith))
