use Rattle.proc_cache_tests.proofs.Turning.{published_ready}
use Rattle.proc_cache_tests.proofs.scene.Scene.published.Goals as goal

pub invariant_of-self : goal.invariant_of-self
invariant_of-self c = let i = c.self.inside in
    (published_ready i.shared i.ring c.after_sweep.new.self i.marks i.hand i.proc c.after_sweep.new.t c.published.new.t c.after_sweep.ensures.ring c.self.invariant.0 c.after_sweep.ensures.tally c.published.ensures.same, c.self.invariant.1)
