use Rattle.std.proofs.Common.{◌∙◌, sym, arith}
use Rattle.heap_text.proofs.Counted.{marks-more}
use Rattle.heap_text.proofs.counts.mark_all.Goals as goal

pub loop-span-preserved : goal.loop-span-preserved
loop-span-preserved c =
    let l = c.loop-span in
    let size = l.invariant.size in
    record {
      size = c.mark_span.ensures.size ∙ size;
      marked = λ i lt. marks-more l.marked c.mark_span.new.marked c.args.spans.now l.span-index i _ c.loop-span-test.true (omega arith)
          (λ low high. c.mark_span.ensures.inside i low high (omega arith)) (c.mark_span.ensures.outside i) (l.invariant.marked i lt);
    }
