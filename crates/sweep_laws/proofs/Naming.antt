-- What a list has, how often, and what it has without one.
use Rattle.std.proofs.Common.{◌≡◌, ◌≢◌, ℕ, zero, suc, ◌+◌, ◌<◌, ◌≤◌, ◌⊎◌, inl, inr, ⊎_elim, set, Bool, true, true≢false, ◌||◌, eqb, List, [], ◌∷◌, length, get_or, sym, refl, ap, ◌∙◌, subst, arith, eq-eqb, ne_eqb}
use mathlib.Core.Logic.{dite}
use mathlib.Core.Option.{some, some-injective, some-ne-none}
use lib.ListN.{get_elem?}
use native.Mathlib.Decide.{ℕ_discrete}
use Rattle.sweep_laws.specs.Lists.{has, erase}
use Rattle.sweep_laws.specs.Counts.{one_if, times}
use Rattle.sweep_laws.proofs.Totals.{other_one}

pub has_times : (x : ℕ) (xs : List ℕ) → has x xs ≡ true → 0 < times x xs
has_times x [] e = absurd (true≢false (sym e))
has_times x (y ∷ ys) e = dite (ℕ_discrete y x)
    (λ s. let o = ap one_if (eq-eqb y x s) in omega arith)
    (λ d. let t = has_times x ys (subst (λ (b : Bool). (b || has x ys) ≡ true) (ne_eqb y x d) e) in omega arith)

pub times_has : (x : ℕ) (xs : List ℕ) → 0 < times x xs → has x xs ≡ true
times_has x [] h = absurd (omega arith)
times_has x (y ∷ ys) h = dite (ℕ_discrete y x)
    (λ s. rw (eq-eqb y x s) refl)
    (λ d. let o = other_one y x d in rw (ne_eqb y x d) (times_has x ys (omega arith)))

pub times_erase : (p : ℕ) (xs : List ℕ) → 0 < times p xs → times p (erase p xs) + 1 ≡ times p xs
times_erase p [] h = absurd (omega arith)
times_erase p (x ∷ xs) h = dite (ℕ_discrete x p)
    (λ e. rw (eq-eqb x p e) (omega arith))
    (λ n. let z = other_one x p n in let t = times_erase p xs (omega arith) in rw (ne_eqb x p n) (omega (arith, z, t)))

pub times_erase_le : (p : ℕ) (xs : List ℕ) → times p (erase p xs) ≤ times p xs
times_erase_le p [] = omega arith
times_erase_le p (x ∷ xs) = dite (ℕ_discrete x p)
    (λ e. rw (eq-eqb x p e) (omega arith))
    (λ n. let z = other_one x p n in let t = times_erase_le p xs in rw (ne_eqb x p n) (omega (arith, z, t)))

pub times_erase_else : (q p : ℕ) (xs : List ℕ) → q ≢ p → times q (erase p xs) ≡ times q xs
times_erase_else q p [] n = refl
times_erase_else q p (x ∷ xs) n = dite (ℕ_discrete x p)
    (λ e. rw (eq-eqb x p e) (let z = other_one x q (λ f. n (sym f ∙ e)) in omega (arith, z)))
    (λ m. rw (ne_eqb x p m) (ap (λ (k : ℕ). one_if (eqb x q) + k) (times_erase_else q p xs n)))

-- the item at an index that the list has
pub at_low : {A : Type 0} (l : List A) (i : ℕ) (d : A) → i < length l → get_elem? l i ≡ some (get_or l i d)
at_low [] i d h = absurd (omega arith)
at_low (x ∷ xs) zero d h = refl
at_low (x ∷ xs) (suc i) d h = at_low xs i d (omega arith)

module _ {A : Type 0} where
  -- an item of a list in which one was replaced
  pub at_set : (l : List A) (i j : ℕ) (a b : A) → get_elem? (set l i a) j ≡ some b → ((j ≡ i) × (a ≡ b)) ⊎ ((j ≢ i) × (get_elem? l j ≡ some b))
  at_set [] i j a b e = absurd (some-ne-none b (sym e))
  at_set (x ∷ xs) zero zero a b e = inl (refl, some-injective a b e)
  at_set (x ∷ xs) zero (suc j) a b e = inr ((λ h. omega arith), e)
  at_set (x ∷ xs) (suc i) zero a b e = inr ((λ h. omega arith), e)
  at_set (x ∷ xs) (suc i) (suc j) a b e = ⊎_elim (λ t. inl (ap suc t.0, t.1)) (λ t. let n = t.0 in inr ((λ h. n (omega arith)), t.1)) (at_set xs i j a b e)

  pub set_here : (l : List A) (i : ℕ) (a : A) → i < length l → get_elem? (set l i a) i ≡ some a
  set_here [] i a h = absurd (omega arith)
  set_here (x ∷ xs) zero a h = refl
  set_here (x ∷ xs) (suc i) a h = set_here xs i a (omega arith)

  pub set_else : (l : List A) (i j : ℕ) (a : A) → j ≢ i → get_elem? (set l i a) j ≡ get_elem? l j
  set_else [] i j a n = refl
  set_else (x ∷ xs) zero zero a n = absurd (n refl)
  set_else (x ∷ xs) zero (suc j) a n = refl
  set_else (x ∷ xs) (suc i) zero a n = refl
  set_else (x ∷ xs) (suc i) (suc j) a n = set_else xs i j a (λ e. n (ap suc e))
