use Rattle.sweeper.proofs.Cutting.{none_after, settled}
use Rattle.sweeper.proofs.Making.{sweep_wants, then_takes}
use Rattle.sweeper.proofs.spans.sweep_and_take.Goals as goal

pub returns-clause-did : goal.returns-clause-did
returns-clause-did g c = let e = c.settle.ensures in
    then_takes c.args.n c.args.class c.args.hand.now c.finish.new.driver c.in-Ok.ensures.did c.settle.new.w (settled c.finish.new.driver.worker c.settle.new.w _ e.settles e.bare) c.take_span.new.w c.take_span.result (none_after c.finish.new.driver.worker c.settle.new.w e.settles) c.take_span.ensures

pub returns-in_default-clause-did : goal.returns-in_default-clause-did
returns-in_default-clause-did g c = sweep_wants c.args.n c.args.class c.args.hand.now c.finish.new.driver _ c.in_default.ensures.did
