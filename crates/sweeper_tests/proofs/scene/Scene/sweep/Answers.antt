use Rattle.sweeper_tests.proofs.Ready.{ready_swept}
use Rattle.sweeper_tests.proofs.scene.Scene.sweep.Goals as goal

pub invariant_of-self : goal.invariant_of-self
invariant_of-self g c = let s = c.args.self.now in let d = c.sweep_one in
    record { ready = ready_swept s.shared s.ring s.marks s.hand d.new.hand d.ensures.tally s.ready d.result d.ensures.did }
