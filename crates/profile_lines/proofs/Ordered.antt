-- Buckets that were sorted by their stacks and slots stand in order.
use Rattle.std.proofs.Common.{◌≡◌, ◌≢◌, ℕ, zero, suc, ◌+◌, ◌<◌, ◌≤◌, true, false, eqb, List, [], ◌∷◌, ◌++◌, map, length, get_or, take, refl, sym, ◌∙◌, ap, arith, ◌⊎◌, inl, inr, subst}
use Rattle.std.specs.List.{sum_by}
use Rattle.std.specs.List.Sorted.{IsPermutation, IsSortedByKey}
use Rattle.std.specs.declared.cmp.Ordering.{Ordering}
use Rattle.std.specs.Ordering.{nat_cmp, ordering_then, is_lt}
use Rattle.std.proofs.lemmas.Bool.{cases_lt, cases_eq, lt-ltb, le-ltb, eq-eqb, ne_eqb}
use Rattle.std.proofs.lemmas.Cmp.{nat_cmp_total, on_total, then_total}
use Rattle.std.proofs.lemmas.List.{take_more, length-take-le}
use Rattle.std.proofs.lemmas.List.Sums.{sum_by-cons}
use Rattle.std.proofs.lemmas.List.Sorted.{IsPermutation-sym, sum_by-IsPermutation, sorted_far, ranks_by}
use Rattle.page_alloc.specs.Lists.{In, AllApart, one_if}
use Rattle.profile_cycle.specs.declared.buckets.Bucket.{Bucket}
use Rattle.profile_cycle.specs.Naming.{is_same}
use Rattle.cycle_history.proofs.InLists.{from-permutation, in-map, from-map, map-apart, from-places}
use Rattle.profile_lines.specs.declared.order.Keyed.{Keyed}
use Rattle.profile_lines.specs.Keyed.{keyed_from}
use Rattle.profile_lines.specs.Read.{AreDifferent, bucket_at, IsBefore, IsOrder}
use Rattle.profile_lines.proofs.Named.{differ-at, same-swap}

-- ---- numbers that no two items share

abbrev many-at : ℕ → List Keyed → ℕ
many-at p xs = sum_by (λ (x : Keyed). one_if (eqb x.number p)) xs

some-at : (xs : List Keyed) (y : Keyed) → In y xs → 1 ≤ many-at y.number xs
some-at [] y h = absurd h
some-at (x ∷ xs) y h =
    let split = sum_by-cons (λ (z : Keyed). one_if (eqb z.number y.number)) x xs in
    elim h [
      | inl here ↦ (let one : one_if (eqb x.number y.number) ≡ 1 = ap one_if (eq-eqb x.number y.number (ap (λ (z : Keyed). z.number) here)) in omega arith)
      | inr there ↦ (let rest = some-at xs y there in omega arith)
    ]

none-at : (p : ℕ) (xs : List Keyed) → ((y : Keyed) → In y xs → y.number ≢ p) → many-at p xs ≡ 0
none-at p [] none = refl
none-at p (x ∷ xs) none =
    let split = sum_by-cons (λ (z : Keyed). one_if (eqb z.number p)) x xs in
    let no : one_if (eqb x.number p) ≡ 0 = ap one_if (ne_eqb x.number p (none x (inl refl))) in
    let rest = none-at p xs (λ y h. none y (inr h)) in
    omega arith

few-at : (p : ℕ) (xs : List Keyed) → AllApart (λ (a b : Keyed). a.number ≢ b.number) xs → many-at p xs ≤ 1
few-at p [] apart = omega arith
few-at p (x ∷ xs) apart =
    let split = sum_by-cons (λ (z : Keyed). one_if (eqb z.number p)) x xs in
    elim (cases_eq x.number p) [
      | inl same ↦ (
          let one : one_if (eqb x.number p) ≡ 1 = ap one_if (eq-eqb x.number p same) in
          let none = none-at p xs (λ y h e. apart.0 y h (same ∙ sym e)) in
          omega arith)
      | inr other ↦ (
          let no : one_if (eqb x.number p) ≡ 0 = ap one_if (ne_eqb x.number p other) in
          let rest = few-at p xs apart.1 in
          omega arith)
    ]

apart-at : (xs : List Keyed) → ((p : ℕ) → many-at p xs ≤ 1) → AllApart (λ (a b : Keyed). a.number ≢ b.number) xs
apart-at [] few = tt
apart-at (x ∷ xs) few = (
  (λ y h e. (
      let split = sum_by-cons (λ (z : Keyed). one_if (eqb z.number y.number)) x xs in
      let one : one_if (eqb x.number y.number) ≡ 1 = ap one_if (eq-eqb x.number y.number e) in
      let more = some-at xs y h in
      let most = few y.number in
      omega arith)),
  apart-at xs (λ p. (let split = sum_by-cons (λ (z : Keyed). one_if (eqb z.number p)) x xs in let most = few p in omega arith)),
)

numbers-apart : (xs ys : List Keyed) → IsPermutation xs ys → AllApart (λ (a b : Keyed). a.number ≢ b.number) xs → AllApart (λ (a b : Keyed). a.number ≢ b.number) ys
numbers-apart xs ys same apart = apart-at ys (λ p. (let sum = sum_by-IsPermutation (λ (z : Keyed). one_if (eqb z.number p)) xs ys same in let few = few-at p xs apart in omega arith))

-- ---- buckets with their numbers

pub keyed-append : (n : ℕ) (xs ys : List Bucket) → keyed_from n (xs ++ ys) ≡ keyed_from n xs ++ keyed_from (n + length xs) ys
keyed-append n [] ys = let e : n ≡ n + 0 = omega arith in ap (λ (k : ℕ). keyed_from k ys) e
keyed-append n (x ∷ xs) ys =
    let e : n + 1 + length xs ≡ n + suc (length xs) = omega arith in
    ap (λ (l : List Keyed). record { stack = x.stack; slot = x.slot; number = n } ∷ l) (keyed-append (n + 1) xs ys ∙ ap (λ (k : ℕ). keyed_from (n + 1) xs ++ keyed_from k ys) e)

pub keyed-next : (buckets : List Bucket) (i : ℕ) (b : Bucket) (old new : List Keyed) → i < length buckets → get_or buckets i b ≡ b → old ≡ keyed_from 0 (take i buckets)
    → new ≡ old ++ record { stack = b.stack; slot = b.slot; number = i } ∷ [] → new ≡ keyed_from 0 (take (i + 1) buckets)
keyed-next buckets i b old new lt at so then =
    let len : 0 + length (take i buckets) ≡ i = (let e = length-take-le i buckets (omega arith) in omega arith) in
    then ∙ ap (λ (l : List Keyed). l ++ record { stack = b.stack; slot = b.slot; number = i } ∷ []) so
    ∙ ap (λ (k : ℕ). keyed_from 0 (take i buckets) ++ keyed_from k (b ∷ [])) (sym len)
    ∙ sym (keyed-append 0 (take i buckets) (b ∷ []))
    ∙ ap (λ (x : Bucket). keyed_from 0 (take i buckets ++ x ∷ [])) (sym at)
    ∙ ap (λ (l : List Bucket). keyed_from 0 l) (sym (take_more buckets i b lt))

from-keyed : (n : ℕ) (buckets : List Bucket) (x : Keyed) → In x (keyed_from n buckets)
    → (j : ℕ) × (j < length buckets) × (x.number ≡ n + j) × ((bucket_at buckets j).stack ≡ x.stack) × ((bucket_at buckets j).slot ≡ x.slot)
from-keyed n [] x h = absurd h
from-keyed n (b ∷ buckets) x h = elim h [
  | inl here ↦ (0, omega arith, (let e = ap (λ (k : Keyed). k.number) here in omega arith), ap (λ (k : Keyed). k.stack) here, ap (λ (k : Keyed). k.slot) here)
  | inr there ↦ (
      let at = from-keyed (n + 1) buckets x there in
      (suc at.0, (let lt = at.1 in omega arith), (let e = at.2 in omega arith), at.3, at.4))
]

to-keyed : (n : ℕ) (buckets : List Bucket) (j : ℕ) → j < length buckets → In (record { stack = (bucket_at buckets j).stack; slot = (bucket_at buckets j).slot; number = n + j }) (keyed_from n buckets)
to-keyed n [] j lt = absurd (omega arith)
to-keyed n (b ∷ buckets) zero lt = let e : n ≡ n + 0 = omega arith in inl (ap (λ (k : ℕ). record { stack = b.stack; slot = b.slot; number = k }) e)
to-keyed n (b ∷ buckets) (suc j) lt =
    let e : n + 1 + j ≡ n + suc j = omega arith in
    inr (subst (λ (k : ℕ). In (record { stack = (bucket_at buckets j).stack; slot = (bucket_at buckets j).slot; number = k }) (keyed_from (n + 1) buckets)) e (to-keyed (n + 1) buckets j (omega arith)))

keyed-apart : (n : ℕ) (buckets : List Bucket) → AllApart (λ (a b : Keyed). a.number ≢ b.number) (keyed_from n buckets)
keyed-apart n [] = tt
keyed-apart n (b ∷ buckets) = ((λ y h e. (let at = (from-keyed (n + 1) buckets y h).2 in omega arith)), keyed-apart (n + 1) buckets)

-- ---- sorted

abbrev key : Keyed → ℕ × ℕ
key x = (x.stack, x.slot)

abbrev pair_cmp : ℕ × ℕ → ℕ × ℕ → Ordering
pair_cmp x y = ordering_then (nat_cmp x.0 y.0) (nat_cmp x.1 y.1)

not-less : (a b x y : ℕ) → is_lt (ordering_then (nat_cmp x a) (nat_cmp y b)) ≡ false → (a < x) ⊎ ((a ≡ x) × (b ≤ y))
not-less a b x y isnt = elim (cases_lt x a) [
  | inl less ↦ (let on = lt-ltb x a less in let yes : is_lt (ordering_then (nat_cmp x a) (nat_cmp y b)) ≡ true = rw on refl in cc)
  | inr ge ↦ elim (cases_eq x a) [
    | inl same ↦ elim (cases_lt y b) [
      | inl less ↦ (
          let off = le-ltb x a ge in
          let eq = eq-eqb x a same in
          let on = lt-ltb y b less in
          let yes : is_lt (ordering_then (nat_cmp x a) (nat_cmp y b)) ≡ true = rw (off, eq, on) refl in
          cc)
      | inr le ↦ inr (sym same, le)
    ]
    | inr other ↦ inl (elim (cases_lt a x) [ inl lt ↦ lt | inr le ↦ absurd (other (omega arith)) ])
  ]
]

pub in-order : (buckets : List Bucket) (sorted : List Keyed) → AreDifferent buckets → IsPermutation (keyed_from 0 buckets) sorted → IsSortedByKey key pair_cmp sorted
    → IsOrder buckets (map (λ (k : Keyed). k.number) sorted)
in-order buckets sorted different same up =
    let at : (x : Keyed) → In x sorted → (x.number < length buckets) × ((bucket_at buckets x.number).stack ≡ x.stack) × ((bucket_at buckets x.number).slot ≡ x.slot) = λ x h. (
    let old = from-keyed 0 buckets x (from-permutation (keyed_from 0 buckets) sorted x same h) in
    let number : old.0 ≡ x.number = (let e = old.2 in omega arith) in
    subst (λ (j : ℕ). (j < length buckets) × ((bucket_at buckets j).stack ≡ x.stack) × ((bucket_at buckets j).slot ≡ x.slot)) number (old.1, old.3, old.4)) in
    let total = then_total (on_total (λ (p : ℕ × ℕ). p.0) nat_cmp_total) (on_total (λ (p : ℕ × ℕ). p.1) nat_cmp_total) in
    let weak = ranks_by total key in
    let apart = numbers-apart (keyed_from 0 buckets) sorted same (keyed-apart 0 buckets) in
    let rises : AllApart (λ (x y : Keyed). is_lt (pair_cmp (key y) (key x)) ≡ false) sorted = from-places (λ (x y : Keyed). is_lt (pair_cmp (key y) (key x)) ≡ false) sorted
    (λ i j d less lt. sorted_far (λ (x y : Keyed). is_lt (pair_cmp (key x) (key y))) weak sorted up i j d (omega arith) lt) in
    record {
      within = λ n h. (let x = from-map (λ (k : Keyed). k.number) sorted n h in subst (λ (j : ℕ). j < length buckets) x.2 (at x.0 x.1).0);
      all = λ n lt. (
          let x : Keyed = record { stack = (bucket_at buckets n).stack; slot = (bucket_at buckets n).slot; number = 0 + n } in
          let there = from-permutation sorted (keyed_from 0 buckets) x (IsPermutation-sym (keyed_from 0 buckets) sorted same) (to-keyed 0 buckets n lt) in
          let e : 0 + n ≡ n = omega arith in
          subst (λ (j : ℕ). In j (map (λ (k : Keyed). k.number) sorted)) e (in-map (λ (k : Keyed). k.number) sorted x there));
      rising = map-apart (λ (k : Keyed). k.number) (λ a b. IsBefore (bucket_at buckets a) (bucket_at buckets b)) sorted (rise sorted at rises apart);
    }
  where
    rise : (xs : List Keyed) → ((x : Keyed) → In x xs → (x.number < length buckets) × ((bucket_at buckets x.number).stack ≡ x.stack) × ((bucket_at buckets x.number).slot ≡ x.slot))
        → AllApart (λ (x y : Keyed). is_lt (pair_cmp (key y) (key x)) ≡ false) xs → AllApart (λ (a b : Keyed). a.number ≢ b.number) xs
        → AllApart (λ (a b : Keyed). IsBefore (bucket_at buckets a.number) (bucket_at buckets b.number)) xs
    rise [] at rises apart = tt
    rise (x ∷ xs) at rises apart = (
      (λ y h. (
          let here = at x (inl refl) in
          let there = at y (inr h) in
          elim (not-less x.stack x.slot y.stack y.slot (rises.0 y h)) [
            | inl less ↦ inl (let a = here.1 in let b = there.1 in omega arith)
            | inr tied ↦ inr (
              (let a = here.1 in let b = there.1 in let e = tied.0 in omega arith),
              elim (cases_lt x.slot y.slot) [
                | inl less ↦ (let a = here.2 in let b = there.2 in omega arith)
                | inr ge ↦ (
                    let stacks : (bucket_at buckets x.number).stack ≡ (bucket_at buckets y.number).stack = (let a = here.1 in let b = there.1 in let e = tied.0 in omega arith) in
                    let slots : (bucket_at buckets x.number).slot ≡ (bucket_at buckets y.number).slot = (let a = here.2 in let b = there.2 in let le = tied.1 in omega arith) in
                    let first = eq-eqb (bucket_at buckets x.number).stack (bucket_at buckets y.number).stack stacks in
                    let second = eq-eqb (bucket_at buckets x.number).slot (bucket_at buckets y.number).slot slots in
                    let on : is_same (bucket_at buckets x.number) (bucket_at buckets y.number) ≡ true = rw (first, second) refl in
                    elim (cases_lt x.number y.number) [
                      | inl less ↦ (let off = differ-at buckets x.number y.number different less there.0 in let none : ⊥ = cc in absurd none)
                      | inr more ↦ (
                          let less : y.number < x.number = elim (cases_lt y.number x.number) [ inl lt ↦ lt | inr le ↦ absurd (apart.0 y h (omega arith)) ] in
                          let off = same-swap (bucket_at buckets x.number) (bucket_at buckets y.number) ∙ differ-at buckets y.number x.number different less here.0 in
                          let none : ⊥ = cc in
                          absurd none)
                    ])
              ],
            )
          ])),
      rise xs (λ z i. at z (inr i)) rises.1 apart.1,
    )
