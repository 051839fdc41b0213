use Rattle.std.proofs.Common.{arith, ◌∙◌}
use Rattle.std.proofs.lemmas.Bool.{and_from, and_left, and_right}
use Rattle.page_bitmap.proofs.Bits.{has_bit-and, has_bit-high_inside, has_bit-high_below, has_bit-low_inside, has_bit-low_above}
use Rattle.page_bitmap.proofs.word.span.Goals as goal

pub returns-clause-inside : goal.returns-clause-inside
returns-clause-inside c = λ k above below.
    has_bit-and _ _ k
    ∙ and_from _ _ (has_bit-high_inside c.args.low k above (omega arith)) (has_bit-low_inside c.args.high k (omega arith) below)

pub returns-clause-below : goal.returns-clause-below
returns-clause-below c = λ k below.
    has_bit-and _ _ k ∙ and_left _ _ (has_bit-high_below c.args.low k (omega arith) below)

pub returns-clause-above : goal.returns-clause-above
returns-clause-above c = λ k above.
    has_bit-and _ _ k ∙ and_right _ _ (has_bit-low_above c.args.high k (omega arith) above)
