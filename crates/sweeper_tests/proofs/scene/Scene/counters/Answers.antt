use Rattle.sweeper_tests.proofs.Meeting.{ready_read}
use Rattle.sweeper_tests.proofs.scene.Scene.counters.Goals as goal

pub invariant_of-self : goal.invariant_of-self
invariant_of-self c = let s = c.args.self.now in let g = c.generation-generation in let x = c.swept-swept in let y = c.spent in
    record { ready = ready_read s.shared s.ring s.marks s.hand s.ready 1 2 3 g.result x.result y.result g.new.w x.new.w y.new.w g.ensures.view x.ensures y.ensures }
