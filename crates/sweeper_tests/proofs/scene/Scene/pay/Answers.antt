use Rattle.sweeper_tests.proofs.Ready.{ready_paid}
use Rattle.sweeper_tests.proofs.scene.Scene.pay.Goals as goal

pub invariant_of-self : goal.invariant_of-self
invariant_of-self g c = let s = c.args.self.now in let d = c.pay in
    record { ready = ready_paid s.shared s.ring s.marks s.hand d.new.hand d.ensures.tally s.ready c.args.pages c.of.result c.args.bytes c.args.credit d.result d.ensures.did }
