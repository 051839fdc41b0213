use Rattle.std.proofs.Common.{◌≡◌, arith, rules}
use Rattle.set_blocks.specs.Blocks.{blocks_for}
use Rattle.set_blocks.proofs.Tails.{all_sets}
use Rattle.set_blocks.proofs.blocks.blocks_for.Goals as goal

pub returns-clause-few : goal.returns-clause-few
returns-clause-few c = λ pages sets used.
    let blocks : c.sum.result ≡ blocks_for c.args.tails.now = search rules in
    let taken = all_sets c.args.tails.now in
    omega arith

pub returns-clause-spares : goal.returns-clause-spares
returns-clause-spares c = λ chunks sets used.
    let blocks : c.sum.result ≡ blocks_for c.args.tails.now = search rules in
    let taken = all_sets c.args.tails.now in
    omega arith
