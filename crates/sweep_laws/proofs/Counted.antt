-- A list that names no number twice, and none from a bound on, is no longer than the bound.
use Rattle.std.proofs.Common.{◌≡◌, ℕ, zero, suc, ◌+◌, ◌<◌, ◌≤◌, eqb, eq-eqb, List, [], ◌∷◌, length, refl, ap, subst, arith}
use mathlib.Core.Logic.{dite}
use native.Mathlib.Decide.{ℕ_discrete, dec_le}
use Rattle.sweep_laws.specs.Counts.{one_if, times}
use Rattle.sweep_laws.proofs.Totals.{same_one, other_one}

-- the sum of f below n
abbrev sum_below : (ℕ → ℕ) → ℕ → ℕ
sum_below f zero = 0
sum_below f (suc n) = sum_below f n + f n

sum_added : (f g : ℕ → ℕ) (n : ℕ) → sum_below (λ p. f p + g p) n ≡ sum_below f n + sum_below g n
sum_added f g zero = refl
sum_added f g (suc n) = let t = sum_added f g n in omega arith

sum_le : (f : ℕ → ℕ) (n : ℕ) → ((p : ℕ) → p < n → f p ≤ 1) → sum_below f n ≤ n
sum_le f zero h = omega arith
sum_le f (suc n) h = let t = sum_le f n (λ p l. h p (omega arith)) in let s = h n (omega arith) in omega arith

-- a number below n is met
met_below : (x n : ℕ) → x < n → 1 ≤ sum_below (λ p. one_if (eqb x p)) n
met_below x zero h = absurd (omega arith)
met_below x (suc n) h = dite (ℕ_discrete x n)
    (λ e. let o = ap one_if (eq-eqb x n e) in omega arith)
    (λ d. let t = met_below x n (omega arith) in omega arith)

-- no list has more numbers than it names below a bound, where it names none from the bound on
all_counted : (xs : List ℕ) (n : ℕ) → ((p : ℕ) → n ≤ p → times p xs ≡ 0) → length xs ≤ sum_below (λ p. times p xs) n
all_counted [] n h = omega arith
all_counted (x ∷ xs) n h =
    let a = sum_added (λ p. one_if (eqb x p)) (λ p. times p xs) n in
    let t = all_counted xs n (λ p far. let z = h p far in omega arith) in
    let low : x < n = dite (dec_le n x) (λ far. let z = h x far in let o = same_one x in absurd (omega arith)) (λ near. omega arith) in
    let o = met_below x n low in omega arith

pub short : (xs : List ℕ) (n : ℕ) → ((p : ℕ) → p < n → times p xs ≤ 1) → ((p : ℕ) → n ≤ p → times p xs ≡ 0) → length xs ≤ n
short xs n once far = let a = all_counted xs n far in let b = sum_le (λ p. times p xs) n once in omega arith

-- so it is shorter where it leaves out a number below the bound
pub shorter : (xs : List ℕ) (n : ℕ) → ((p : ℕ) → p < n → times p xs ≤ 1) → ((p : ℕ) → n ≤ p → times p xs ≡ 0) → (x : ℕ) → x < n → times x xs ≡ 0 → length xs < n
shorter xs n once far x low out = let s = short (x ∷ xs) n more (λ p f. let z = far p f in let o = other_one x p (λ e. omega arith) in omega arith) in omega arith
  where
    more : (p : ℕ) → p < n → times p (x ∷ xs) ≤ 1
    more p l = dite (ℕ_discrete x p)
        (λ e. let o = ap one_if (eq-eqb x p e) in let z = subst (λ (y : ℕ). times y xs ≡ 0) e out in omega arith)
        (λ d. let o = other_one x p d in let m = once p l in omega arith)
