use Rattle.std.proofs.Common.{◌≡◌, ◌+◌, ◌-◌, ◌*◌, ◌∙◌, sym, ap, arith, inl, inr}
use Rattle.std.proofs.lemmas.Bool.{cases_lt}
use Rattle.page_alloc.specs.Region.{loose_in}
use Rattle.page_alloc.proofs.Walks.{ties-loose, top-of}
use Rattle.page_alloc.proofs.runs.top_run.Goals as goal

pub returns-in-Some-clause-found : goal.returns-in-Some-clause-found
returns-in-Some-clause-found c =
    let index : (c.loop-index.index - 1) + 1 ≡ c.loop-index.index = omega arith in
    top-of _ _ _ _ _ _ (ties-loose c.args.chunks.now (c.loop-index.index - 1) _ (omega arith)) c.in-Some.ensures.found (omega arith)
    (λ p low high. c.loop-index.invariant p (omega arith) high)

pub loop-index-preserved : goal.loop-index-preserved
loop-index-preserved c p low high =
    elim (cases_lt p (512 * c.loop-index.index)) [
      | inr above ↦ c.loop-index.invariant p above high
      | inl here ↦ (
          let k = c.loop-index.index - 1 in
          let place : 512 * k + (p - 512 * k) ≡ p = omega arith in
          let at = (ties-loose c.args.chunks.now k _ (omega arith)).at (p - 512 * k) (omega arith) in
          sym (ap (loose_in c.args.chunks.now) place) ∙ (at ∙ c.in_default.ensures.none (p - 512 * k)))
    ]
