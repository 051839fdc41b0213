use Rattle.proc_cache_tests.proofs.scene.Scene.small.Goals as goal

pub invariant_of-self : goal.invariant_of-self
invariant_of-self g c = (c.small.ensures.ready, c.small.ensures.objects)
