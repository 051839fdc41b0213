use Rattle.sweeper_tests.proofs.Ready.{ready_reclaimed}
use Rattle.sweeper_tests.proofs.scene.Scene.reclaim.Goals as goal

pub invariant_of-self : goal.invariant_of-self
invariant_of-self g c = let s = c.args.self.now in let d = c.reclaim in
    record { ready = ready_reclaimed s.shared s.ring s.marks s.hand d.new.hand d.ensures.tally s.ready c.args.pages d.result d.ensures.did }
