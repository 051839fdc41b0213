use Rattle.sweeper_tests.proofs.Ready.{ready_turned}
use Rattle.sweeper_tests.proofs.scene.Scene.marked.Goals as goal

pub invariant_of-self : goal.invariant_of-self
invariant_of-self c = let s = c.args.self.now in let d = c.next_cycle in
    record { ready = ready_turned s.shared s.ring s.marks s.hand s.ready d.new.self d.new.t c.published.new.t d.ensures.ring c.published.ensures.same d.ensures.tally }
