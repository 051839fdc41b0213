use Rattle.std.proofs.Common.{◌∙◌, ap, subst, sym}
use Rattle.proc_cache_tests.proofs.Kept.{first_ready}
use Rattle.proc_cache_tests.proofs.Living.{objects-none}
use Rattle.sweep_lists.specs.Room.{Roomy}
use Rattle.proc_cache_tests.specs.declared.objects.Object.{Object}
use Rattle.proc_cache_tests.specs.Ready.{AreObjects}
use Rattle.proc_cache_tests.proofs.scene.Scene.start.Goals as goal

pub invariant_of-result : goal.invariant_of-result
invariant_of-result c = (
  first_ready c.in_ok-shared.shared c.in_ok-ring.ring c.empty-marks.result c.in_ok-shared.driver c.new-hand.result c.in_ok-proc.proc _ c.in_ok-ring.ensures.buckets c.empty-marks.ensures.pairs c.empty-marks.ensures.dead c.in_ok-shared.ensures c.new-hand.ensures.worker
      (c.new-hand.ensures.tally ∙ c.in_ok-ring.ensures.tally) c.in_ok-proc.ensures,
  subst (AreObjects c.new-hand.result.worker.view.own.log) (sym (ap (λ (r : Roomy Object). r.items) c.new-objects.ensures)) (objects-none c.new-hand.result.worker.view.own.log),
)
