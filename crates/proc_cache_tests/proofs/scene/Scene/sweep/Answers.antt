use Rattle.proc_cache_tests.proofs.Living.{objects-grow}
use Rattle.proc_cache_tests.proofs.scene.Scene.sweep.Goals as goal

pub invariant_of-self : goal.invariant_of-self
invariant_of-self g c = (c.sweep_next.ensures.ready, objects-grow c.self.inside.hand.worker c.sweep_next.new.hand.worker c.self.inside.objects.items c.sweep_next.ensures.grows c.self.invariant.1)
