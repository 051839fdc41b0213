use Rattle.std.proofs.Common.{arith, ◌*◌, ◌-◌, ◌%◌, sym, ◌∙◌, inl, inr}
use Rattle.std.proofs.lemmas.Bool.{cases_lt}
use Rattle.page_bitmap.proofs.Maps.{cut-one, cut-page}
use Rattle.page_bitmap.proofs.bitmap.Bitmap.last_below.Goals as goal

pub returns-in-Some-clause-page : goal.returns-in-Some-clause-page
returns-in-Some-clause-page c =
    cut-one c.args.self.now.words c.args.end (c.loop-i.i - 1) c.span.result c.in-Some.place (omega arith) c.in-Some.ensures.one.0
    (λ k above. c.span.ensures.above k (omega arith)) c.in-Some.ensures.one.1

pub returns-in-Some-clause-last : goal.returns-in-Some-clause-last
returns-in-Some-clause-last c = λ p after below. elim (cases_lt p (64 * c.loop-i.i)) [
  | inl near ↦
      sym (cut-page c.args.self.now.words c.args.end (c.loop-i.i - 1) c.span.result p (omega arith)
      (λ k above under. c.span.ensures.inside k above (omega arith)) (omega arith) below (omega arith))
      ∙ c.in-Some.ensures.highest (p % 64) (omega arith)
  | inr far ↦ c.loop-i.invariant p far below
]

pub loop-i-preserved : goal.loop-i-preserved
loop-i-preserved c = λ p after below. elim (cases_lt p (64 * c.loop-i.i)) [
  | inl near ↦
      sym (cut-page c.args.self.now.words c.args.end (c.loop-i.i - 1) c.span.result p (omega arith)
      (λ k above under. c.span.ensures.inside k above (omega arith)) (omega arith) below (omega arith))
      ∙ c.in_default.ensures.none (p % 64)
  | inr far ↦ c.loop-i.invariant p far below
]
