use Rattle.std.proofs.Common.{sym, ◌∙◌}
use Rattle.span_table_tests.proofs.Driving.{idle_of}
use Rattle.sweeper_tests.proofs.Ready.{ready_start}
use Rattle.sweeper_tests.proofs.scene.Scene.first.Goals as goal

pub invariant_of-result : goal.invariant_of-result
invariant_of-result c = let w = c.in_ok-shared.ensures in let m = c.empty-marks in let h = c.new-hand.ensures in let r = c.in_ok-ring.ensures in
    record { ready = ready_start c.in_ok-shared.shared c.in_ok-ring.ring m.result c.new-hand.result c.in_ok-shared.w (idle_of c.in_ok-shared.shared c.in_ok-shared.w w.free) (w.marks ∙ sym m.ensures.pairs) m.ensures.dead h.worker (h.tally ∙ r.tally) r.buckets }
