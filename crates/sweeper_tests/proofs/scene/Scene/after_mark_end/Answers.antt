use Rattle.std.proofs.Common.{◌∙◌}
use Rattle.sweeper_tests.proofs.Ready.{ready_start}
use Rattle.sweeper_tests.proofs.scene.Scene.after_mark_end.Goals as goal

pub invariant_of-result : goal.invariant_of-result
invariant_of-result g c = let p = c.in_ok-pass_mark_end.ensures in let t = p.turned in let h = c.new-hand.ensures in let r = c.in_ok-ring.ensures in
    record { ready = ready_start c.in_ok-shared.shared c.in_ok-ring.ring c.pass_mark_end.new.marks c.new-hand.result c.pass_mark_end.new.w t.idle t.marks p.undead h.worker (h.tally ∙ r.tally) r.buckets }
