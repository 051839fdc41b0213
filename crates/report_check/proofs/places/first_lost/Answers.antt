use Rattle.report_check.proofs.Lost.{span-lives, lost-more}
use Rattle.report_check.proofs.places.first_lost.Goals as goal

pub first_lost_in-lost-requires-clause-seats : goal.first_lost_in-lost-requires-clause-seats
first_lost_in-lost-requires-clause-seats c =
    span-lives c.args.items.now c.args.spans.now c.loop-span.span-index c.args.bound c.loop-span.lost _ c.loop-span-test.true c.loop-span.invariant.few c.requires.seats

pub loop-span-preserved : goal.loop-span-preserved
loop-span-preserved c =
    lost-more c.args.lives.now c.args.items.now c.args.spans.now c.loop-span.span-index c.args.bound c.loop-span.lost c.first_lost_in-lost.result _ c.loop-span-test.true c.loop-span.invariant c.first_lost_in-lost.ensures
