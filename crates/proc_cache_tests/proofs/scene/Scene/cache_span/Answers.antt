use Rattle.proc_cache_tests.proofs.Living.{objects-grow}
use Rattle.proc_cache_tests.proofs.scene.Scene.cache_span.Goals as goal

pub invariant_of-result : goal.invariant_of-result
invariant_of-result c = (c.in-Err.ensures.ready, objects-grow c.self.inside.hand.worker c.look.new.hand.worker c.self.inside.objects.items c.in-Err.ensures.grows c.self.invariant.1)
