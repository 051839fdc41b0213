-- Counts in lists and sums over lists that change at one place.
use Rattle.std.proofs.Common.{◌≡◌, ◌≢◌, ℕ, zero, suc, ◌+◌, ◌<◌, ◌≤◌, eqb, List, [], ◌∷◌, ◌++◌, map, length, set, sym, refl, ap, subst, arith, eq-eqb, ne_eqb}
use mathlib.Core.Option.{some, some-injective, some-ne-none}
use lib.ListN.{get_elem?}
use Rattle.sweep_laws.specs.Counts.{one_if, times, total, total_from}

pub same_one : (p : ℕ) → one_if (eqb p p) ≡ 1
same_one p = ap one_if (eq-eqb p p refl)

pub other_one : (x p : ℕ) → x ≢ p → one_if (eqb x p) ≡ 0
other_one x p n = ap one_if (ne_eqb x p n)

pub times_append : (p : ℕ) (xs ys : List ℕ) → times p (xs ++ ys) ≡ times p xs + times p ys
times_append p [] ys = omega arith
times_append p (x ∷ xs) ys = let t = times_append p xs ys in omega arith

pub times_end : (p : ℕ) (xs : List ℕ) → times p (xs ++ p ∷ []) ≡ times p xs + 1
times_end p xs = omega (arith, times_append p xs (p ∷ []), same_one p)

pub times_end_else : (q p : ℕ) (xs : List ℕ) → q ≢ p → times q (xs ++ p ∷ []) ≡ times q xs
times_end_else q p xs n = omega (arith, times_append q xs (p ∷ []), other_one p q (λ e. n (sym e)))

module _ {A : Type 0} where
  pub inside_at : (l : List A) (n : ℕ) (a : A) → get_elem? l n ≡ some a → n < length l
  inside_at [] n a e = absurd (some-ne-none a (sym e))
  inside_at (x ∷ xs) zero a e = omega arith
  inside_at (x ∷ xs) (suc n) a e = let t = inside_at xs n a e in omega arith

  -- the sum where one item is replaced
  pub total_set : (f : A → ℕ) (l : List A) (n : ℕ) (a b : A) → get_elem? l n ≡ some a → total f (set l n b) + f a ≡ total f l + f b
  total_set f [] n a b e = absurd (some-ne-none a (sym e))
  total_set f (x ∷ xs) zero a b e = let s = ap f (some-injective x a e) in omega arith
  total_set f (x ∷ xs) (suc n) a b e = let t = total_set f xs n a b e in omega arith

  pub total_from-set : (f : ℕ → A → ℕ) (k : ℕ) (l : List A) (n : ℕ) (a b : A) → get_elem? l n ≡ some a → total_from f k (set l n b) + f (k + n) a ≡ total_from f k l + f (k + n) b
  total_from-set f k [] n a b e = absurd (some-ne-none a (sym e))
  total_from-set f k (x ∷ xs) zero a b e = let s = ap (f k) (some-injective x a e) in
      subst (λ (j : ℕ). f k b + total_from f (k + 1) xs + f j a ≡ f k x + total_from f (k + 1) xs + f j b) (let z : k ≡ k + 0 = omega arith in z) (omega arith)
  total_from-set f k (x ∷ xs) (suc n) a b e = let t = total_from-set f (k + 1) xs n a b e in
      subst (λ (j : ℕ). f k x + total_from f (k + 1) (set xs n b) + f j a ≡ f k x + total_from f (k + 1) xs + f j b) (let z : k + 1 + n ≡ k + suc n = omega arith in z) (omega arith)

  -- one item's part of a sum
  pub part_le : (f : A → ℕ) (l : List A) (n : ℕ) (a : A) → get_elem? l n ≡ some a → f a ≤ total f l
  part_le f [] n a e = absurd (some-ne-none a (sym e))
  part_le f (x ∷ xs) zero a e = let s = ap f (some-injective x a e) in omega arith
  part_le f (x ∷ xs) (suc n) a e = let t = part_le f xs n a e in omega arith

  pub part_from_le : (f : ℕ → A → ℕ) (k : ℕ) (l : List A) (n : ℕ) (a : A) → get_elem? l n ≡ some a → f (k + n) a ≤ total_from f k l
  part_from_le f k [] n a e = absurd (some-ne-none a (sym e))
  part_from_le f k (x ∷ xs) zero a e = let s = ap (f k) (some-injective x a e) in subst (λ (j : ℕ). f j a ≤ f k x + total_from f (k + 1) xs) (let z : k ≡ k + 0 = omega arith in z) (omega arith)
  part_from_le f k (x ∷ xs) (suc n) a e = let t = part_from_le f (k + 1) xs n a e in subst (λ (j : ℕ). f j a ≤ f k x + total_from f (k + 1) xs) (let z : k + 1 + n ≡ k + suc n = omega arith in z) (omega arith)

  -- the parts of two different items
  pub two_parts_le : (f : A → ℕ) (l : List A) (n m : ℕ) (a b : A) → n ≢ m → get_elem? l n ≡ some a → get_elem? l m ≡ some b → f a + f b ≤ total f l
  two_parts_le f [] n m a b d e g = absurd (some-ne-none a (sym e))
  two_parts_le f (x ∷ xs) zero zero a b d e g = absurd (d refl)
  two_parts_le f (x ∷ xs) zero (suc m) a b d e g = let s = ap f (some-injective x a e) in let t = part_le f xs m b g in omega arith
  two_parts_le f (x ∷ xs) (suc n) zero a b d e g = let s = ap f (some-injective x b g) in let t = part_le f xs n a e in omega arith
  two_parts_le f (x ∷ xs) (suc n) (suc m) a b d e g = let t = two_parts_le f xs n m a b (λ z. d (ap suc z)) e g in omega arith

  -- a sum of nothing
  pub total_none : (f : A → ℕ) (l : List A) → ((n : ℕ) (a : A) → get_elem? l n ≡ some a → f a ≡ 0) → total f l ≡ 0
  total_none f [] h = refl
  total_none f (x ∷ xs) h = let s = h 0 x refl in let t = total_none f xs (λ n a e. h (suc n) a e) in omega arith

  pub total_from-same : (f : ℕ → A → ℕ) (g : ℕ → A → ℕ) (k : ℕ) (l : List A) → ((n : ℕ) (a : A) → get_elem? l n ≡ some a → f (k + n) a ≡ g (k + n) a) → total_from f k l ≡ total_from g k l
  total_from-same f g k [] h = refl
  total_from-same f g k (x ∷ xs) h =
      let s = subst (λ (j : ℕ). f j x ≡ g j x) (let z : k + 0 ≡ k = omega arith in z) (h 0 x refl) in
      let t = total_from-same f g (k + 1) xs (λ n a e. subst (λ (j : ℕ). f j a ≡ g j a) (let z : k + suc n ≡ k + 1 + n = omega arith in z) (h (suc n) a e)) in omega arith

  -- what f leaves out of an item, its sum leaves out
  pub gap_le : (f g : ℕ → A → ℕ) (k : ℕ) (l : List A) → ((j : ℕ) (a : A) → f j a ≤ g j a) → (n : ℕ) (a : A) → get_elem? l n ≡ some a → total_from f k l + g (k + n) a ≤ total_from g k l + f (k + n) a
  gap_le f g k [] le n a e = absurd (some-ne-none a (sym e))
  gap_le f g k (x ∷ xs) le zero a e = let s = ap (f k) (some-injective x a e) in let r = ap (g k) (some-injective x a e) in let t = total_from-le f g (k + 1) xs le in
      subst (λ (j : ℕ). f k x + total_from f (k + 1) xs + g j a ≤ g k x + total_from g (k + 1) xs + f j a) (let z : k ≡ k + 0 = omega arith in z) (omega arith)
    where
      total_from-le : (f g : ℕ → A → ℕ) (k : ℕ) (l : List A) → ((j : ℕ) (a : A) → f j a ≤ g j a) → total_from f k l ≤ total_from g k l
      total_from-le f g k [] le = omega arith
      total_from-le f g k (x ∷ xs) le = let s = le k x in let t = total_from-le f g (k + 1) xs le in omega arith
  gap_le f g k (x ∷ xs) le (suc n) a e = let s = le k x in let t = gap_le f g (k + 1) xs le n a e in
      subst (λ (j : ℕ). f k x + total_from f (k + 1) xs + g j a ≤ g k x + total_from g (k + 1) xs + f j a) (let z : k + 1 + n ≡ k + suc n = omega arith in z) (omega arith)

  -- a mapped list
  pub at_mapped : {B : Type 0} (f : A → B) (l : List A) (n : ℕ) (b : B) → get_elem? (map f l) n ≡ some b → (a : A) × (get_elem? l n ≡ some a) × (f a ≡ b)
  at_mapped f [] n b e = absurd (some-ne-none b (sym e))
  at_mapped f (x ∷ xs) zero b e = (x, refl, some-injective (f x) b e)
  at_mapped f (x ∷ xs) (suc n) b e = at_mapped f xs n b e

  pub total_mapped : {B : Type 0} (g : A → B) (f : B → ℕ) (l : List A) → total f (map g l) ≡ total (λ a. f (g a)) l
  total_mapped g f [] = refl
  total_mapped g f (x ∷ xs) = let t = total_mapped g f xs in omega arith
