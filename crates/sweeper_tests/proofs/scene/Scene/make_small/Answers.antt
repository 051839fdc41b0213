use Rattle.sweeper_tests.proofs.Ready.{ready_made}
use Rattle.sweeper_tests.proofs.scene.Scene.make_small.Goals as goal

pub invariant_of-self : goal.invariant_of-self
invariant_of-self g c = let s = c.args.self.now in let d = c.new_span in
    record { ready = ready_made s.shared s.ring s.marks s.hand d.new.hand d.ensures.tally s.ready c.span_pages.result _ d.result d.ensures.did }
