use Rattle.std.proofs.Common.{◌≡◌, ℕ, ◌+◌, ◌*◌, ◌<◌, arith, inl, inr}
use Rattle.std.proofs.lemmas.Bool.{cases_eq}
use Rattle.cycle_history.proofs.places.search_place.Goals as goal

-- where none of the slots is the object, its span begins before
before : (c : goal.In-None) (page k : ℕ) → k < c.args.count → c.args.behind ≡ 8192 * page + c.args.slot * k → page < c.loop-index.page
before c page k lt is =
    let le = c.loop-index.invariant.not_past page k lt is in
    elim (cases_eq page c.loop-index.page) [
      | inl same ↦ absurd (c.slot_at.ensures.none c.in-None.is k lt (omega arith))
      | inr other ↦ omega arith
    ]

first : (c : goal.In-None) → 0 < c.loop-index.page
first c = let place = c.requires.place in let lt = before c place.0 place.1 place.2 place.3 in omega arith

pub overflow_sub-page : goal.overflow_sub-page
overflow_sub-page c = first c

pub loop-index-smaller : goal.loop-index-smaller
loop-index-smaller c = let lt = first c in omega arith

pub loop-index-preserved : goal.loop-index-preserved
loop-index-preserved c = record {
  own = (let le = c.loop-index.invariant.own in omega arith);
  not_past = λ page k lt is. (let less = before c page k lt is in omega arith);
}
