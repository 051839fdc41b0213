use Rattle.proc_cache_tests.proofs.Living.{objects-grow}
use Rattle.proc_cache_tests.proofs.scene.Scene.large.Goals as goal

pub invariant_of-self : goal.invariant_of-self
invariant_of-self g c = (c.large.ensures.ready, objects-grow c.self.inside.hand.worker c.large.new.hand.worker c.self.inside.objects.items c.large.ensures.grows c.self.invariant.1)
