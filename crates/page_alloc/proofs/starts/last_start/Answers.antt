use Rattle.std.proofs.Common.{◌≡◌, ◌+◌, ◌-◌, ◌*◌, ◌∙◌, sym, ap, arith, inl, inr}
use Rattle.std.proofs.lemmas.Bool.{cases_lt}
use Rattle.page_alloc.specs.Region.{pages_in, pages_of_map}
use Rattle.page_alloc.proofs.Walks.{over-at}
use Rattle.page_alloc.proofs.starts.last_start.Goals as goal

pub returns-in-Some-clause-found : goal.returns-in-Some-clause-found
returns-in-Some-clause-found c =
    let inv = c.loop-index.invariant in
    let found = c.in-Some.ensures.page in
    let k = c.loop-index.index - 1 in
    record {
      low = omega arith;
      has = over-at pages_of_map c.args.starts.now k c.in-Some.first _ (omega arith) (omega arith) ∙ found.1;
      last = λ p after le. elim (cases_lt (p + 512) (512 * c.loop-index.index + c.loop-index.end)) [
        | inr far ↦ inv.none p far le
        | inl near ↦ (
            let j = p - 512 * k in
            let here : 512 * k + j ≡ p = omega arith in
            sym (ap (pages_in c.args.starts.now) here) ∙ (over-at pages_of_map c.args.starts.now k j _ (omega arith) (omega arith) ∙ c.in-Some.ensures.last j (omega arith) (omega arith)))
      ];
    }

pub loop-index-preserved : goal.loop-index-preserved
loop-index-preserved c =
    let inv = c.loop-index.invariant in
    let k = c.loop-index.index - 1 in
    record {
      some = omega arith;
      few = omega arith;
      low = omega arith;
      none = λ p from le. elim (cases_lt (p + 512) (512 * c.loop-index.index + c.loop-index.end)) [
        | inr far ↦ inv.none p far le
        | inl near ↦ (
            let j = p - 512 * k in
            let here : 512 * k + j ≡ p = omega arith in
            sym (ap (pages_in c.args.starts.now) here) ∙ (over-at pages_of_map c.args.starts.now k j _ (omega arith) (omega arith) ∙ c.in_default.ensures.none j (omega arith)))
      ];
    }
