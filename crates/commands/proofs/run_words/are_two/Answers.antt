use Rattle.commands.proofs.RunForms.{two_first, two_last}
use Rattle.commands.proofs.run_words.are_two.Goals as goal

pub returns-then-is_each : goal.returns-then-is_each
returns-then-is_each c = two_first c.args.first.now c.args.second.now c.is_each.result c.is_joined.result c.is_each.ensures c.if-is_each.true c.is_joined.ensures

pub returns-then-is_each-2 : goal.returns-then-is_each-2
returns-then-is_each-2 c =
    two_last c.args.first.now c.args.second.now c.is_each.result c.is_each-2.result c.is_joined-then-is_each-2.result c.is_each.ensures c.if-is_each.false c.is_each-2.ensures c.if-is_each-2.true c.is_joined-then-is_each-2.ensures
