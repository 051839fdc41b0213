-- The first item that passes a test, by its index.
use Rattle.std.proofs.Common.{◌≡◌, ℕ, zero, suc, ◌<◌, Bool, true, false, cond, List, [], ◌∷◌, length, get_or, refl, ap, arith, Some, None, nat_lt}
use Rattle.std.proofs.lemmas.Bool.{ltb-false}
use Rattle.std.specs.List.{position, remove, position_or_len}
use Rattle.std.proofs.lemmas.List.Quantifiers.{position-Some}
use Rattle.std.proofs.lemmas.List.Sums.{fails_before_first}
use Rattle.sweep_laws.specs.Lists.{drop_first}

not_some : (b : Bool) (n : ℕ) → cond b (Some n) None ≡ None → b ≡ false
not_some true n e = absurd (cc)
not_some false n e = refl

module _ {A : Type 0} (test : A → Bool) where
  drop-found : (xs : List A) (i : ℕ) (d : A) → i < length xs → test (get_or xs i d) ≡ true → ((k : ℕ) → k < i → test (get_or xs k d) ≡ false) → drop_first test xs ≡ remove xs i
  drop-found [] i d low at before = absurd (omega arith)
  drop-found (x ∷ xs) zero d low at before = rw at refl
  drop-found (x ∷ xs) (suc i) d low at before =
      rw (before zero (omega arith)) (ap (λ ys. x ∷ ys) (drop-found xs i d (omega arith) at (λ k l. before (suc k) (omega arith))))

  drop-none : (xs : List A) (d : A) → ((k : ℕ) → k < length xs → test (get_or xs k d) ≡ false) → drop_first test xs ≡ xs
  drop-none [] d before = refl
  drop-none (x ∷ xs) d before = rw (before zero (omega arith)) (ap (λ ys. x ∷ ys) (drop-none xs d (λ k l. before (suc k) (omega arith))))

  -- no position: the test fails everywhere
  pub none-fails : (xs : List A) (d : A) → position test xs ≡ None → (k : ℕ) → k < length xs → test (get_or xs k d) ≡ false
  none-fails xs d e k low =
      let b = not_some (nat_lt (position_or_len test xs) (length xs)) (position_or_len test xs) e in
      fails_before_first test xs k d (omega (arith, ltb-false (position_or_len test xs) (length xs) b))

  pub drop-at : (xs : List A) (i : ℕ) (d : A) → position test xs ≡ Some i → drop_first test xs ≡ remove xs i
  drop-at xs i d e = let p = position-Some test xs i d e in drop-found xs i d p.0 p.1 p.2

  pub drop-absent : (xs : List A) → position test xs ≡ None → drop_first test xs ≡ xs
  drop-absent [] e = refl
  drop-absent (x ∷ xs) e = drop-none (x ∷ xs) x (none-fails (x ∷ xs) x e)
