-- The marks of a mark end rise.
use Rattle.std.proofs.Common.{◌≡◌, ℕ, eqb, ltb, cond, true, List, [], ◌∷◌, refl, inl, inr}
use Rattle.std.specs.List.{AllByRecursion}
use Rattle.std.specs.List.Sorted.{IsStrictlySortedBy}
use Rattle.std.specs.declared.cmp.Ordering.TheVariants.{Less, Equal, Greater}
use Rattle.std.specs.Ordering.{nat_cmp, ordering_then}
use Rattle.std.proofs.lemmas.Bool.{cases_Bool}
use Rattle.span_state.specs.MarkSet.{IsRising, pair_cmp}
use Rattle.sweep_laws.specs.Lists.{is_before, rises, rises_after}

before-less : (x y : ℕ × ℕ) → pair_cmp x y ≡ Less → is_before x y ≡ true
before-less x y h =
    elim (cases_Bool (ltb x.0 y.0)) [
      | inl on ↦ rw on refl
      | inr off ↦ (
          let h' : ordering_then (cond (eqb x.0 y.0) Equal Greater) (nat_cmp x.1 y.1) ≡ Less = rw off at h in
          elim (cases_Bool (eqb x.0 y.0)) [
            | inl same ↦ (
                let h'' : nat_cmp x.1 y.1 ≡ Less = rw same at h' in
                elim (cases_Bool (ltb x.1 y.1)) [
                  | inl less ↦ rw (off, same, less) refl
                  | inr more ↦ (
                      let g : cond (eqb x.1 y.1) Equal Greater ≡ Less = rw more at h'' in
                      elim (cases_Bool (eqb x.1 y.1)) [
                        | inl one ↦ (let e : Equal ≡ Less = rw one at g in absurd (cc))
                        | inr two ↦ (let e : Greater ≡ Less = rw two at g in absurd (cc))
                      ])
                ])
            | inr other ↦ (let e : Greater ≡ Less = rw other at h' in absurd (cc))
          ])
    ]

rises-behind : (x : ℕ × ℕ) (xs : List (ℕ × ℕ)) → AllByRecursion (λ y. pair_cmp x y ≡ Less) xs → IsStrictlySortedBy pair_cmp xs → rises_after x xs ≡ true
unfolding IsStrictlySortedBy
rises-behind x [] first rest = refl
rises-behind x (y ∷ xs) first rest = rw (before-less x y first.0) (rises-behind y xs rest.0 rest.1)

pub rises-from : (pairs : List (ℕ × ℕ)) → IsRising pairs → rises pairs ≡ true
unfolding IsStrictlySortedBy
rises-from [] h = refl
rises-from (x ∷ xs) h = rises-behind x xs h.0 h.1
