use Rattle.std.proofs.Common.{◌≡◌, ◌+◌, ◌*◌, ℕ, arith, subst}
use Rattle.page_bitmap.specs.Words.{has_page}
use Rattle.page_bitmap.specs.Scans.{IsMeasured}
use Rattle.page_bitmap.proofs.ScansLemmas.{word-of, measured-all}
use Rattle.page_bitmap.proofs.bitmap.Bitmap.longest_run.Goals as goal

pub loop-i-preserved : goal.loop-i-preserved
loop-i-preserved c =
    let same : 64 * c.loop-i.i + 64 ≡ 64 * (c.loop-i.i + 1) = omega arith in
    subst (λ (x : ℕ). IsMeasured (has_page c.args.self.now.words) x c.measure_word.result.0 c.measure_word.result.1) same
    (c.measure_word.ensures (has_page c.args.self.now.words) (word-of c.args.self.now.words c.loop-i.i (omega arith)) c.loop-i.invariant)

pub returns : goal.returns
returns c = measured-all (has_page c.args.self.now.words) (64 * c.loop-i.i) c.loop-i.begin c.loop-i.longest (omega arith) c.loop-i.invariant
