use Rattle.sweeper_tests.proofs.Ready.{ready_finished}
use Rattle.sweeper_tests.proofs.scene.Scene.finish.Goals as goal

pub invariant_of-self : goal.invariant_of-self
invariant_of-self g c = let s = c.args.self.now in let d = c.finish in
    record { ready = ready_finished s.shared s.ring s.marks s.hand d.new.driver d.ensures.tally s.ready d.result d.ensures.did }
