use Rattle.proc_cache_tests.proofs.Living.{objects-grow}
use Rattle.proc_cache_tests.proofs.scene.Scene.reclaim.Goals as goal

pub invariant_of-self : goal.invariant_of-self
invariant_of-self g c = (c.reclaim_pages.ensures.ready, objects-grow c.self.inside.hand.worker c.reclaim_pages.new.hand.worker c.self.inside.objects.items c.reclaim_pages.ensures.grows c.self.invariant.1)
