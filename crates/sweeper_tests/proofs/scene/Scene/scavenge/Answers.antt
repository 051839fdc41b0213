use Rattle.sweeper_tests.proofs.Meeting.{ready_stepped}
use Rattle.sweeper_tests.proofs.scene.Scene.scavenge.Goals as goal

pub invariant_of-self : goal.invariant_of-self
invariant_of-self g c = let s = c.args.self.now in
    record { ready = ready_stepped s.shared s.ring s.marks s.hand s.ready c.scavenge_step.new.w c.scavenge_step.result c.scavenge_step.ensures }
