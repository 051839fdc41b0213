use Rattle.std.proofs.Common.{rules}
use Rattle.edge_io.proofs.Clear.{kept_more}
use Rattle.edge_io.proofs.lines.Lines.take_clear.Goals as goal

pub returns-clause-kept : goal.returns-clause-kept
returns-clause-kept g c =
    let old = c.args.self.now in
    let count = c.clear_ahead-count.result in
    let clear = c.clear_ahead-count.ensures in
    kept_more g.S.Source.left old _ count clear.clear (search rules) c.requires.inside clear.ahead
    (search rules) (search rules) (search rules) (search rules) (search rules) (search rules) (search rules)
