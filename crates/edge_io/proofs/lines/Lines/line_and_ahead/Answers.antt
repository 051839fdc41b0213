use Rattle.std.proofs.Common.{◌+◌, slice_range, arith}
use Rattle.edge_io.proofs.Clear.{split_slice}
use Rattle.edge_io.proofs.lines.Lines.line_and_ahead.Goals as goal

pub returns : goal.returns
returns g c =
    let lines = c.args.self.now in
    (slice_range lines.buffer (lines.begin + lines.used) lines.end, split_slice lines.buffer lines.begin lines.used lines.end (omega arith))
