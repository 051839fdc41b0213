use Rattle.std.proofs.Common.{arith}
use Rattle.page_bitmap.specs.Words.{has_page}
use Rattle.page_bitmap.proofs.ScansLemmas.{word-of, front-found, front-more}
use Rattle.page_bitmap.proofs.bitmap.Bitmap.front_run.Goals as goal

pub returns-then-ones-lt64 : goal.returns-then-ones-lt64
returns-then-ones-lt64 c =
    front-found (has_page c.args.self.now.words) _ _ _ (word-of c.args.self.now.words c.loop-i.i (omega arith)) c.low_ones-ones.ensures c.loop-i.invariant
    (omega arith) (omega arith)

pub loop-i-preserved : goal.loop-i-preserved
loop-i-preserved c = λ p below.
    front-more (has_page c.args.self.now.words) _ _ _ (word-of c.args.self.now.words c.loop-i.i (omega arith)) c.low_ones-ones.ensures c.loop-i.invariant
    (omega arith) p (omega arith)
