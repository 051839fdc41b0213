use Rattle.std.proofs.Common.{◌<◌, refl, rules, arith}
use Rattle.edge_io.proofs.Clear.{takes_line}
use Rattle.edge_io.proofs.lines.Lines.take_short.Goals as goal

pub returns-clause-taken : goal.returns-clause-taken
returns-clause-taken g c =
    let old = c.args.self.now in
    let count = c.before_feed-count.result in
    let found = c.before_feed-count.ensures in
    let below : count < 32 = omega (arith, found.short, c.if-count-eq-NEAR.false) in
    λ is. takes_line g.S.Source.left old _ count found.clear (found.feed below) (search rules) (omega (arith, below)) (omega (arith, below))
    refl refl refl refl refl refl (omega (arith, below))
