-- How the count of the sets that are to be popped yet changes with one set, and what it tells where it is 0.
use Rattle.std.proofs.Common.{◌≡◌, ℕ, zero, suc, ◌+◌, ◌<◌, ◌==◌, Bool, true, false, not, ◌&&◌, if◌then◌else◌, List, [], ◌∷◌, length, get_or, set, refl, sym, ap, subst, ◌∙◌, Some, arith}
use Rattle.std.proofs.lemmas.Bool.{eqb-true, eq-eqb}
use Rattle.std.specs.Option.{is_some}
use Rattle.sweep_laws.specs.State.{SetState}
use Rattle.sweep_laws.specs.Reading.{no_set, is_swept_set}
use Rattle.sweep_laws.specs.NeedsOfMarkEnd.{first_unpopped}
use Rattle.sweep_laws.specs.ChangesOfSets.{raise_head}
use Rattle.sweep_generation.specs.Unpopped.{unpopped_at, count_unpopped}

-- an unswept set that does not count has no entry
has_ended : (s e : Bool) → ◌≡◌ {A = ℕ} (if not s && not e then 1 else 0) 0 → s ≡ false → e ≡ true
has_ended true e none unswept = cc
has_ended false true none unswept = refl
has_ended false false none unswept = absurd (omega arith)

module _ (g : ℕ) where
  -- a swept set does not count
  pub swept_alike : (j : ℕ) (x y : SetState) → is_swept_set g j ≡ true → unpopped_at g j x ≡ unpopped_at g j y
  swept_alike j x y swept = rw swept

  -- one set changes
  pub count_set : (n k j : ℕ) (xs : List SetState) (y : SetState) → k < length xs → j ≡ n + k
      → count_unpopped g n (set xs k y) + unpopped_at g j (get_or xs k no_set) ≡ count_unpopped g n xs + unpopped_at g j y
  count_set n k j [] y low at = absurd (omega arith)
  count_set n zero j (x ∷ xs) y low at =
      let e : n ≡ j = omega arith in
      subst (λ (m : ℕ). (unpopped_at g n y + count_unpopped g (n + 1) xs) + unpopped_at g m x ≡ (unpopped_at g n x + count_unpopped g (n + 1) xs) + unpopped_at g m y) e (omega arith)
  count_set n (suc k) j (x ∷ xs) y low at = let r = count_set (n + 1) k j xs y (omega arith) (omega arith) in omega (arith, r)

  -- one set changes, and counts as before
  pub count_same : (n k j : ℕ) (xs : List SetState) (y : SetState) → j ≡ n + k → unpopped_at g j y ≡ unpopped_at g j (get_or xs k no_set)
      → count_unpopped g n (set xs k y) ≡ count_unpopped g n xs
  count_same n k j [] y at same = refl
  count_same n zero j (x ∷ xs) y at same =
      let e : j ≡ n = omega arith in
      ap (λ u. u + count_unpopped g (n + 1) xs) (subst (λ (m : ℕ). unpopped_at g m y ≡ unpopped_at g m x) e same)
  count_same n (suc k) j (x ∷ xs) y at same = ap (λ u. unpopped_at g n x + u) (count_same (n + 1) k j xs y (omega arith) same)

  -- none counts exactly where none is found
  pub none_left : (n : ℕ) (xs : List SetState) → (count_unpopped g n xs == 0) ≡ not (is_some (first_unpopped g n xs))
  none_left n [] = refl
  none_left n (x ∷ xs) = by_test (not (is_swept_set g n) && not (x.head == x.tail)) (none_left (n + 1) xs)
    where
      by_test : (b : Bool) → (count_unpopped g (n + 1) xs == 0) ≡ not (is_some (first_unpopped g (n + 1) xs))
          → (((if b then 1 else 0) + count_unpopped g (n + 1) xs) == 0) ≡ not (is_some (if b then Some x else first_unpopped g (n + 1) xs))
      by_test true rest = let e : (1 + count_unpopped g (n + 1) xs == 0) ≡ false = grind arith in e
      by_test false rest =
          let e : 0 + count_unpopped g (n + 1) xs ≡ count_unpopped g (n + 1) xs = omega arith in
          ap (λ (m : ℕ). m == 0) e ∙ rest

  -- an unswept set counts 1 where head and tail are apart, else 0
  apart_counts : (j : ℕ) (x : SetState) → is_swept_set g j ≡ false → x.head < x.tail → unpopped_at g j x ≡ 1
  apart_counts j x unswept low = let e : (x.head == x.tail) ≡ false = grind arith in rw (unswept, e) refl

  met_counts : (j : ℕ) (x : SetState) → x.head ≡ x.tail → unpopped_at g j x ≡ 0
  met_counts j x met = rw (eq-eqb x.head x.tail met) (by_part (is_swept_set g j))
    where
      by_part : (b : Bool) → ◌≡◌ {A = ℕ} (if not b && not true then 1 else 0) 0
      by_part true = refl
      by_part false = refl

  -- the last entry of an unswept set is popped
  pub pop_last : (k : ℕ) (xs : List SetState) → k < length xs → is_swept_set g k ≡ false → (get_or xs k no_set).head + 1 ≡ (get_or xs k no_set).tail
      → count_unpopped g 0 (set xs k (raise_head (get_or xs k no_set))) + 1 ≡ count_unpopped g 0 xs
  pop_last k xs low unswept last =
      let r = count_set 0 k k xs (raise_head (get_or xs k no_set)) low (omega arith) in
      let a = apart_counts k (get_or xs k no_set) unswept (omega arith) in
      let b = met_counts k (raise_head (get_or xs k no_set)) last in
      omega (arith, r, a, b)

  -- an entry of an unswept set is popped, and others are left
  pub pop_more : (k : ℕ) (xs : List SetState) → k < length xs → is_swept_set g k ≡ false → (get_or xs k no_set).head + 1 < (get_or xs k no_set).tail
      → count_unpopped g 0 (set xs k (raise_head (get_or xs k no_set))) ≡ count_unpopped g 0 xs
  pop_more k xs low unswept more =
      let a = apart_counts k (get_or xs k no_set) unswept (omega arith) in
      let b = apart_counts k (raise_head (get_or xs k no_set)) unswept more in
      count_same 0 k k xs (raise_head (get_or xs k no_set)) (omega arith) (b ∙ sym a)

  -- where none counts, no unswept set has an entry
  pub none_apart : (n k j : ℕ) (xs : List SetState) → j ≡ n + k → count_unpopped g n xs ≡ 0 → is_swept_set g j ≡ false
      → (get_or xs k no_set).head ≡ (get_or xs k no_set).tail
  none_apart n k j [] at none unswept = refl
  none_apart n zero j (x ∷ xs) at none unswept =
      let e : j ≡ n = omega arith in
      let u : unpopped_at g n x ≡ 0 = omega arith in
      eqb-true x.head x.tail (has_ended (is_swept_set g n) (x.head == x.tail) u (subst (λ (m : ℕ). is_swept_set g m ≡ false) e unswept))
  none_apart n (suc k) j (x ∷ xs) at none unswept = none_apart (n + 1) k j xs (omega arith) (omega arith) unswept
