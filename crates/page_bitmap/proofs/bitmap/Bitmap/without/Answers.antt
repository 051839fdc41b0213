use Rattle.std.proofs.Common.{arith, rules, ◌∙◌}
use Rattle.std.proofs.lemmas.List.{length-set}
use Rattle.page_bitmap.proofs.Maps.{without-more, without-ahead, without-all}
use Rattle.page_bitmap.proofs.bitmap.Bitmap.without.Goals as goal

pub loop-i-preserved : goal.loop-i-preserved
loop-i-preserved c = record {
  fits = length-set _ _ _ ∙ c.loop-i.invariant.fits;
  done = without-more c.loop-i.words c.args.self.now.words c.args.other.now.words c.loop-i.i (omega arith) (omega arith) (search rules) c.loop-i.invariant.done c.loop-i.invariant.ahead;
  ahead = without-ahead c.loop-i.words c.args.self.now.words c.loop-i.i _ c.loop-i.invariant.ahead;
}

pub returns : goal.returns
returns c = without-all c.loop-i.words c.args.self.now.words c.args.other.now.words (λ p below. c.loop-i.invariant.done p (omega arith))
