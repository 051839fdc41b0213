-- How many numbers of a list pass a test, by a search, by an exchange of places, and one by one.
use Rattle.std.proofs.Common.{◌≡◌, ◌≢◌, ℕ, zero, suc, ◌<◌, ◌≤◌, Bool, true, false, eqb, List, [], ◌∷◌, length, get_or, Result, Ok, Err, MatchBool, is_ok, IsPermutation, Some, refl, sym, ◌∙◌, ap, subst, arith, inl, inr}
use Rattle.std.specs.Prelude.{MatchResult}
use Rattle.std.proofs.lemmas.Bool.{cases_Bool, cases_lt, cases_eq, eqb-true, eq-eqb}
use Rattle.std.proofs.lemmas.List.Sorted.{sum_by-IsPermutation}
use Rattle.std.proofs.lemmas.List.Recursion.{is_sum_by}
use Rattle.std.proofs.lemmas.Option.{slice_get-get_or, slice_get_within, get_or_from_slice_get}
use Rattle.page_alloc.specs.Lists.{In, count, one_if}
use Rattle.report_check.proofs.Counts.{get-in}
use Rattle.report_check.proofs.Summed.{in-get}

-- ---- a search

-- the test passes of all below the place, and of none from it on
abbrev pub IsPoint : {X : Type 0} → (X → Bool) → List X → ℕ → Type 0
IsPoint {X} p xs i = ((k : ℕ) (d : X) → 0 ≤ k → k < i → p (get_or xs k d) ≡ true) × ((k : ℕ) (d : X) → i ≤ k → k < length xs → p (get_or xs k d) ≡ false)

pub point-count : {X : Type 0} (p : X → Bool) (xs : List X) (i : ℕ) → i ≤ length xs → IsPoint p xs i → i ≡ count p xs
point-count p [] zero le point = refl
point-count p [] (suc i) le point = absurd (omega arith)
point-count p (x ∷ xs) zero le point =
    let off : p x ≡ false = point.1 0 x (omega arith) (omega arith) in
    let rest = point-count p xs zero (omega arith) ((λ k d low high. absurd (omega arith)), (λ k d low high. point.1 (suc k) d (omega arith) (omega arith))) in
    let o = ap one_if off in
    omega arith
point-count p (x ∷ xs) (suc i) le point =
    let on : p x ≡ true = point.0 0 x (omega arith) (omega arith) in
    let rest = point-count p xs i (omega arith) ((λ k d low high. point.0 (suc k) d (omega arith) (omega arith)), (λ k d low high. point.1 (suc k) d (omega arith) (omega arith))) in
    let o = ap one_if on in
    omega arith

-- ---- an exchange of places

pub count-permutation : {X : Type 0} (p : X → Bool) (xs ys : List X) → IsPermutation xs ys → count p ys ≡ count p xs
count-permutation {X} p xs ys same =
    let f : X → ℕ = λ x. one_if (p x) in
    is_sum_by (count p) f refl (λ x zs. refl) ys ∙ (sum_by-IsPermutation f xs ys same ∙ sym (is_sum_by (count p) f refl (λ x zs. refl) xs))

-- ---- one that passes

pub count-some : {X : Type 0} (p : X → Bool) (xs : List X) (x : X) → In x xs → p x ≡ true → 1 ≤ count p xs
count-some p [] x i on = absurd i
count-some p (y ∷ xs) x i on = elim i [
  | inl here ↦ (let o = ap one_if (ap p here ∙ on) in omega arith)
  | inr there ↦ (let r = count-some p xs x there on in omega arith)
]

pub count-one : {X : Type 0} (p : X → Bool) (xs : List X) → 1 ≤ count p xs → (x : X) × In x xs × (p x ≡ true)
count-one p [] some = absurd (omega arith)
count-one p (x ∷ xs) some = elim (cases_Bool (p x)) [
  | inl on ↦ (x, inl refl, on)
  | inr off ↦ (
      let o = ap one_if off in
      let rest : 1 ≤ count p xs = omega arith in
      let r = count-one p xs rest in (r.0, inr r.1, r.2))
]

-- counts by two tests differ where one item passes one of the tests alone
pub count-other : {X : Type 0} (p q : X → Bool) (xs : List X) → count p xs ≢ count q xs → (x : X) × In x xs × (p x ≢ q x)
count-other p q [] other = absurd (other refl)
count-other p q (x ∷ xs) other = elim (cases_eq (one_if (p x)) (one_if (q x))) [
  | inl same ↦ (
      let r = count-other p q xs (λ (e : count p xs ≡ count q xs). other (omega arith)) in
      (r.0, inr r.1, r.2))
  | inr off ↦ (x, inl refl, λ (e : p x ≡ q x). off (ap one_if e))
]

pub count-le : {X : Type 0} (p q : X → Bool) (xs : List X) → ((x : X) → In x xs → p x ≡ true → q x ≡ true) → count p xs ≤ count q xs
count-le p q [] more = omega arith
count-le p q (x ∷ xs) more =
    let r = count-le p q xs (λ y i. more y (inr i)) in
    elim (cases_Bool (p x)) [
      | inl on ↦ (let a = ap one_if on in let b = ap one_if (more x (inl refl) on) in omega arith)
      | inr off ↦ (let a = ap one_if off in omega arith)
    ]

pub count-lt : {X : Type 0} (p q : X → Bool) (xs : List X) (x : X) → ((y : X) → In y xs → p y ≡ true → q y ≡ true) → In x xs → p x ≡ false → q x ≡ true → count p xs < count q xs
count-lt p q [] x more i off on = absurd i
count-lt p q (y ∷ xs) x more i off on = elim i [
  | inl here ↦ (
      let r = count-le p q xs (λ z j. more z (inr j)) in
      let a = ap one_if (ap p here ∙ off) in
      let b = ap one_if (ap q here ∙ on) in
      omega arith)
  | inr there ↦ (
      let r = count-lt p q xs x (λ z j. more z (inr j)) there off on in
      elim (cases_Bool (p y)) [
        | inl pass ↦ (let a = ap one_if pass in let b = ap one_if (more y (inl refl) pass) in omega arith)
        | inr fail ↦ (let a = ap one_if fail in omega arith)
      ])
]

-- ---- numbers that rise

pub in-permutation : (xs ys : List ℕ) (x : ℕ) → IsPermutation xs ys → (In x xs → In x ys) × (In x ys → In x xs)
in-permutation xs ys x same =
    let p : ℕ → Bool = λ y. eqb y x in
    let e = count-permutation p xs ys same in (
      (λ i. (
          let a = count-some p xs x i (eq-eqb x x refl) in
          let r = count-one p ys (omega arith) in
          subst (λ y. In y ys) (eqb-true r.0 x r.2) r.1)),
      (λ i. (
          let a = count-some p ys x i (eq-eqb x x refl) in
          let r = count-one p xs (omega arith) in
          subst (λ y. In y xs) (eqb-true r.0 x r.2) r.1)),
    )

pub found : (xs : List ℕ) (x : ℕ) (r : Result ℕ ℕ) (b : Bool) → b ≡ is_ok r
    → MatchResult r (λ i. (i < length xs) × (get_or xs i 0 ≡ x)) (λ i. (i ≤ length xs) × ((k : ℕ) → k < i → get_or xs k 0 < x) × ((k : ℕ) → i ≤ k → k < length xs → x < get_or xs k 0))
    → MatchBool b (In x xs) (¬ In x xs)
found xs x (Ok i) b e m = rw e (get-in xs i x (slice_get-get_or xs i 0 m.0 ∙ ap Some m.1))
found xs x (Err i) b e m = rw e (λ among. (
    let g = in-get xs x among in
    let lt = slice_get_within xs g.0 x g.1 in
    let is = get_or_from_slice_get xs g.0 x 0 g.1 in
    elim (cases_lt g.0 i) [
      | inl before ↦ (let a = m.1 g.0 before in absurd (omega arith))
      | inr behind ↦ (let a = m.2 g.0 behind lt in absurd (omega arith))
    ]))
