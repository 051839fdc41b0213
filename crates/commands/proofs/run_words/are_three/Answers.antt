use Rattle.commands.proofs.RunForms.{three_first, three_last}
use Rattle.commands.proofs.run_words.are_three.Goals as goal

pub returns-then-is_each : goal.returns-then-is_each
returns-then-is_each c = three_first c.args.first.now c.args.second.now c.args.third.now c.is_each.result c.is_split.result c.is_each.ensures c.if-is_each.true c.is_split.ensures

pub returns-then-is_each-2 : goal.returns-then-is_each-2
returns-then-is_each-2 c =
    three_last c.args.first.now c.args.second.now c.args.third.now c.is_each.result c.is_each-2.result c.is_split-then-is_each-2.result c.is_each.ensures c.if-is_each.false c.is_each-2.ensures c.if-is_each-2.true
    c.is_split-then-is_each-2.ensures
