use Rattle.std.proofs.Common.{◌==◌, sym, ◌∙◌, inl, inr, arith}
use Rattle.std.proofs.lemmas.Bool.{or_cases, eqb-true}
use Rattle.span_state.specs.MarkSet.{is_marked}
use Rattle.span_state_tests.proofs.tests.marks_of.Goals as goal

pub loop-index-preserved : goal.loop-index-preserved
loop-index-preserved c =
    λ k on. elim (or_cases (is_marked c.loop-index.marks 7 k) (k == c.loop-index.index) (sym (c.in_ok-add.ensures.marked 7 k) ∙ on)) [
      | inl before ↦ c.loop-index.invariant k before
      | inr here ↦ (let e = eqb-true k c.loop-index.index here in omega arith)
    ]

pub returns : goal.returns
returns c =
    λ k on. elim (or_cases _ _ (sym (c.in_ok-add-2.ensures.marked 7 k) ∙ on)) [ inl before ↦ c.loop-index.invariant k before | inr other ↦ cc ]
