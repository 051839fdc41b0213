use Rattle.std.proofs.Common.{arith, rules}
use Rattle.page_bitmap.proofs.Maps.{sets-all, sets-more}
use Rattle.page_bitmap.proofs.bitmap.Bitmap.set_run.Goals as goal

pub loop-i-preserved : goal.loop-i-preserved
loop-i-preserved c =
    sets-more _ c.loop-i.self.words c.args.page c.args.n c.args.value c.loop-i.i c.with_span.result (search rules) (omega arith) c.loop-i.invariant
    (λ k above below. c.with_span.ensures.inside k (omega arith) (omega arith))
    (λ k below. c.with_span.ensures.below k (omega arith))
    (λ k above within. c.with_span.ensures.above k (omega arith) within)

pub returns : goal.returns
returns c = sets-all _ _ _ _ _ _ c.loop-i.invariant (omega arith)
