use Rattle.std.proofs.Common.{ap, subst, sym}
use Rattle.proc_cache_tests.proofs.Living.{objects-grow, objects-none}
use Rattle.sweep_lists.specs.Room.{Roomy}
use Rattle.proc_cache_tests.specs.declared.objects.Object.{Object}
use Rattle.proc_cache_tests.specs.Ready.{AreObjects}
use Rattle.proc_cache_tests.proofs.scene.Scene.mark_end.Goals as goal

pub invariant_of-self : goal.invariant_of-self
invariant_of-self g c = (c.prepare.ensures.ready, objects-grow c.self.inside.hand.worker c.prepare.new.hand.worker c.self.inside.objects.items c.prepare.ensures.grows c.self.invariant.1)

pub invariant_of-self-2 : goal.invariant_of-self-2
invariant_of-self-2 g c = (
  c.turn.ensures,
  subst (AreObjects c.turn.new.hand.worker.view.own.log) (sym (ap (λ (r : Roomy Object). r.items) c.clear.ensures)) (objects-none c.turn.new.hand.worker.view.own.log),
)
