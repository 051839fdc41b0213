use Rattle.std.proofs.Common.{◌∙◌, ap}
use Rattle.span_state.specs.declared.sweep.SweepNote.{SweepNote}
use Rattle.sweep_lists.specs.Room.{Roomy}
use Rattle.heap_run.proofs.Queued.{push-more}
use Rattle.heap_run.proofs.turns.collect.Goals as goal

pub loop-note-preserved : goal.loop-note-preserved
loop-note-preserved c =
    ap (λ (r : Roomy SweepNote). r.items) c.push.ensures
    ∙ push-more c.args.notes.now.items c.args.more.now c.reserve_one.new.self.items c.loop-note.note-index _ c.loop-note-test.true (c.in_ok-reserve_one.ensures.items ∙ c.loop-note.invariant)
