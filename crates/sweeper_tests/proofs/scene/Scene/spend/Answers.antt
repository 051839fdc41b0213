use Rattle.sweeper_tests.proofs.Ready.{ready_spent}
use Rattle.sweeper_tests.proofs.scene.Scene.spend.Goals as goal

pub invariant_of-self : goal.invariant_of-self
invariant_of-self c = let s = c.args.self.now in
    record { ready = ready_spent s.shared s.ring s.marks s.hand s.ready c.add_spent.result c.args.bytes c.add_spent.new.w c.add_spent.ensures }
