use Rattle.std.proofs.Common.{arith, ◌∙◌, sym}
use Rattle.std.proofs.lemmas.Bool.{or_right, and_right, not_from_true, not_from_false}
use Rattle.page_bitmap.proofs.Bits.{has_bit-and, has_bit-or, has_bit-not, or_none, and_one}
use Rattle.page_bitmap.proofs.word.with_span.Goals as goal

pub returns-then-value-clause-inside : goal.returns-then-value-clause-inside
returns-then-value-clause-inside c = λ k above below.
    has_bit-or _ _ k ∙ or_right _ _ (c.span-mask.ensures.inside k above below) ∙ sym c.if-value.true

pub returns-then-value-clause-below : goal.returns-then-value-clause-below
returns-then-value-clause-below c = λ k below.
    has_bit-or _ _ k ∙ or_none _ _ (c.span-mask.ensures.below k below)

pub returns-then-value-clause-above : goal.returns-then-value-clause-above
returns-then-value-clause-above c = λ k above within.
    has_bit-or _ _ k ∙ or_none _ _ (c.span-mask.ensures.above k above)

pub returns-else-value-clause-inside : goal.returns-else-value-clause-inside
returns-else-value-clause-inside c = λ k above below.
    has_bit-and _ _ k
    ∙ and_right _ _ (has_bit-not _ k (omega arith) (omega arith) ∙ not_from_true _ (c.span-mask.ensures.inside k above below))
    ∙ sym c.if-value.false

pub returns-else-value-clause-below : goal.returns-else-value-clause-below
returns-else-value-clause-below c = λ k below.
    has_bit-and _ _ k
    ∙ and_one _ _ (has_bit-not _ k (omega arith) (omega arith) ∙ not_from_false _ (c.span-mask.ensures.below k below))

pub returns-else-value-clause-above : goal.returns-else-value-clause-above
returns-else-value-clause-above c = λ k above within.
    has_bit-and _ _ k
    ∙ and_one _ _ (has_bit-not _ k (omega arith) within ∙ not_from_false _ (c.span-mask.ensures.above k above))
