use Rattle.std.proofs.Common.{◌+◌, ◌∙◌, arith}
use Rattle.page_alloc.proofs.Cutting.{firsts-step, lengths-step, past-step}
use Rattle.page_alloc.proofs.allocator.note_cuts.Goals as goal

pub loop-cut-preserved : goal.loop-cut-preserved
loop-cut-preserved c =
    let inv = c.loop-cut.invariant in
    let len = c.append.ensures.len in
    let capacity = c.append.ensures.capacity in
    record {
      past = past-step c.args.cycle c.args.proc c.loop-cut.cut-index c.args.cuts.now _ _ _ _ (omega arith) inv.past c.append.ensures.past;
      len = omega arith;
      capacity = omega arith;
      maps = c.mark_start.auto.starts ∙ inv.maps;
      starts = firsts-step c.loop-cut.cut-index c.args.cuts.now _ _ _ _ (omega arith) inv.starts c.mark_start.ensures;
      lengths = lengths-step c.loop-cut.cut-index c.args.cuts.now _ _ _ (omega arith) inv.lengths;
    }
