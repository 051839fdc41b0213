use Rattle.std.proofs.Common.{◌∙◌}
use Rattle.sweeper_tests.proofs.Ready.{stage_start}
use Rattle.sweeper_tests.proofs.scene.pass_mark_end.Goals as goal

pub add_spans-requires : goal.add_spans-requires
add_spans-requires g c = let n = c.count.ensures in let r = c.requires in
    record { stage = stage_start c.args.shared.now c.args.marks.now c.count.new.w n.free (n.generation ∙ r.generation) r.unmarked r.undead }
