use Rattle.std.proofs.Common.{◌≡◌, ◌∙◌, ℕ, ◌&&◌, ◌||◌, eqb, eq-eqb, false, List, [], ◌∷◌, inl, inr, refl, sym, ap}
use Rattle.std.specs.List.Sorted.{IsStrictlySortedBy}
use Rattle.std.proofs.lemmas.Bool.{cases_Bool, eqb-true}
use Rattle.span_state.specs.MarkSet.{IsRising, has_pair}
use Rattle.span_state.proofs.Pairs.{rising-one}
use Rattle.span_table_tests.proofs.turns.one_mark.Goals as goal

flipped : (a b : ℕ) → eqb a b ≡ eqb b a
flipped a b =
    elim (cases_Bool (eqb a b)) [
      | inl on ↦ on ∙ sym (eq-eqb b a (sym (eqb-true a b on)))
      | inr off ↦ elim (cases_Bool (eqb b a)) [
        | inl back ↦ absurd (let on = eq-eqb a b (sym (eqb-true b a back)) in cc)
        | inr too ↦ off ∙ sym too
      ]
    ]

-- rising pairs that have the first object of the page alone
one-pair : (pairs : List (ℕ × ℕ)) (page : ℕ) → IsRising pairs → ((q k : ℕ) → has_pair pairs q k ≡ (has_pair [] q k || (eqb q page && eqb k 0))) → pairs ≡ (page, 0) ∷ []
unfolding IsStrictlySortedBy
one-pair pairs page rising marked = rising-one pairs ((page, 0) ∷ []) rising (tt, tt) (λ q k. marked q k ∙ same q k)
  where
    same : (q k : ℕ) → (eqb q page && eqb k 0) ≡ has_pair ((page, 0) ∷ []) q k
    same q k = rw (flipped q page, flipped k 0) (elim (cases_Bool (eqb page q && eqb 0 k)) [ inl on ↦ rw on refl | inr off ↦ rw off refl ])

pub returns : goal.returns
returns c = one-pair c.add.new.self.pairs c.args.page c.add.ensures.rising (λ q k. c.in_ok-add.ensures.marked q k ∙ ap (λ (l : List (ℕ × ℕ)). has_pair l q k || (eqb q c.args.page && eqb k 0)) c.empty-marks.ensures.pairs)
