use Rattle.sweeper_tests.proofs.Ready.{ready_published}
use Rattle.sweeper_tests.proofs.scene.Scene.swept.Goals as goal

pub invariant_of-self : goal.invariant_of-self
invariant_of-self c = let s = c.args.self.now in let d = c.after_sweep in
    record { ready = ready_published s.shared s.ring s.marks s.hand s.ready d.new.self d.new.t c.published.new.t d.ensures.ring c.published.ensures.same d.ensures.tally }
