use Rattle.std.proofs.Common.{◌≡◌, ◌+◌, ◌*◌, ◌-◌, arith, ℕ, subst}
use Rattle.page_bitmap.specs.Words.{has_page}
use Rattle.page_bitmap.specs.Runs.{IsBackRun}
use Rattle.page_bitmap.proofs.ScansLemmas.{word-of, back-found, back-more}
use Rattle.page_bitmap.proofs.bitmap.Bitmap.back_run.Goals as goal

pub returns-then-ones-lt64 : goal.returns-then-ones-lt64
returns-then-ones-lt64 c =
    let base : ℕ = 64 * (c.loop-i.i - 1) in
    let same : 448 - base + c.high_ones-ones.result ≡ 64 * (7 - (c.loop-i.i - 1)) + c.high_ones-ones.result = omega arith in
    subst (IsBackRun (has_page c.args.self.now.words)) same
    (back-found (has_page c.args.self.now.words) base _ _ (word-of c.args.self.now.words (c.loop-i.i - 1) (omega arith)) c.high_ones-ones.ensures
    (λ p above below. c.loop-i.invariant p (omega arith) below) (omega arith) (omega arith))

pub loop-i-preserved : goal.loop-i-preserved
loop-i-preserved c = λ p above below.
    back-more (has_page c.args.self.now.words) _ _ _ (word-of c.args.self.now.words (c.loop-i.i - 1) (omega arith)) c.high_ones-ones.ensures
    (λ q after before. c.loop-i.invariant q (omega arith) before) (omega arith) p above below
