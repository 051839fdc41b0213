use Rattle.std.proofs.Common.{◌∙◌, sym}
use Rattle.sweeper_tests.proofs.Handing.{handed_idle, handed_marks, handed_works}
use Rattle.sweeper_tests.proofs.Ready.{ready_hand}
use Rattle.sweeper_tests.proofs.scene.Scene.cached.Goals as goal

pub invariant_of-result : goal.invariant_of-result
invariant_of-result c = let t = c.in_ok-shared.shared in let d = c.in_ok-shared.driver in let w = c.hand_out_for-w in let m = c.empty-marks in let h = c.new-hand.ensures in let r = c.in_ok-ring.ensures in
    record {
      ready = ready_hand t c.in_ok-ring.ring m.result c.new-hand.result w.result
          (handed_works t 70 69 0 512 8 1 d w.result c.in_ok-shared.ensures w.ensures.worker)
          (handed_idle t 70 69 0 512 8 1 d w.result c.in_ok-shared.ensures w.ensures.worker)
          (handed_marks t 70 69 0 512 8 1 d w.result c.in_ok-shared.ensures w.ensures.worker ∙ sym m.ensures.pairs)
          m.ensures.dead h.worker (h.tally ∙ r.tally) r.buckets;
    }
