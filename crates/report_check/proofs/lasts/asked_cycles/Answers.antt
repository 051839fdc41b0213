use Rattle.std.proofs.Common.{◌∙◌, ap, arith}
use Rattle.trace_reader.specs.declared.trace.Cycle.{Cycle}
use Rattle.report_check.proofs.Lasting.{cycles-more}
use Rattle.report_check.proofs.lasts.asked_cycles.Goals as goal

pub loop-part-preserved : goal.loop-part-preserved
loop-part-preserved c = record {
  number = omega arith;
  all = cycles-more c.loop-part.cycles.items c.add_cycles.new.cycles.items c.as_slice-part-items.result.now c.loop-part.part-index c.loop-part.cycle c.as_slice.result.now c.part-item.result
      c.loop-part.invariant.all c.in_ok-add_cycles.ensures (c.as_slice.ensures ∙ ap (λ (x : Cycle). x.events) c.part-item.is) c.loop-part.invariant.number (omega arith);
}
