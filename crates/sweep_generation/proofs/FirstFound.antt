-- The first item of a list that passes a test, looked for item by item.
use Rattle.std.proofs.Common.{◌≡◌, ℕ, zero, suc, ◌+◌, ◌-◌, ◌≤◌, Bool, true, false, cond, List, [], ◌∷◌, length, take, drop, refl, sym, ap, ◌∙◌, arith}
use Rattle.std.proofs.Math.Nat.{le_of_eq}
use Rattle.std.proofs.lemmas.List.{length-drop, take_all}
use Rattle.std.specs.Prelude.{Option, Some, None}
use Rattle.std.specs.Option.{is_some}
use Rattle.std.specs.List.{find}

some_not : {X : Type 0} (x : X) → Some x ≡ None → ⊥
some_not x e = cc

module _ {X : Type 0} (p : X → Bool) where
  -- the first item does not pass where none of a longer part does
  passes_not : (x : X) (ys : List X) → cond (p x) (Some x) (find p ys) ≡ None → (p x ≡ false) × (find p ys ≡ None)
  passes_not x ys e = go (p x) refl e
    where
      go : (b : Bool) → p x ≡ b → cond b (Some x) (find p ys) ≡ None → (p x ≡ false) × (find p ys ≡ None)
      go true f n = absurd (some_not x n)
      go false f n = (f, n)

  -- the search goes on after i of which none passes
  find_past : (xs : List X) (i : ℕ) → find p (take i xs) ≡ None → find p xs ≡ find p (drop i xs)
  find_past xs zero none = refl
  find_past [] (suc i) none = refl
  find_past (x ∷ xs) (suc i) none = let s = passes_not x (take i xs) none in ap (λ b. cond b (Some x) (find p xs)) s.0 ∙ find_past xs i s.1

  -- the same, in the words of a slice
  pub find_rest : (xs : List X) (i : ℕ) → find p (take i xs) ≡ None → find p (take (length xs - i) (drop i xs)) ≡ find p xs
  find_rest xs i none =
      let low : length (drop i xs) ≤ length xs - i = le_of_eq (length-drop i xs) in
      ap (λ ys. find p ys) (take_all (length xs - i) (drop i xs) low) ∙ sym (find_past xs i none)

  -- none of n more passes either
  none_past : (xs : List X) (i n j : ℕ) → j ≡ i + n → find p (take i xs) ≡ None → find p (take n (drop i xs)) ≡ None → find p (take j xs) ≡ None
  none_past xs zero n j at none more = let e : j ≡ n = omega arith in ap (λ m. find p (take m xs)) e ∙ more
  none_past [] (suc i) n j at none more = let e : j ≡ suc (i + n) = omega arith in ap (λ m. find p (take m [])) e
  none_past (x ∷ xs) (suc i) n j at none more =
      let s = passes_not x (take i xs) none in
      let e : j ≡ suc (i + n) = omega arith in
      ap (λ m. find p (take m (x ∷ xs))) e ∙ ap (λ b. cond b (Some x) (find p (take (i + n) xs))) s.0 ∙ none_past xs i n (i + n) refl s.1 more

  -- what is found among the first n is found
  found_within : (xs : List X) (n : ℕ) (y : X) → find p (take n xs) ≡ Some y → find p xs ≡ Some y
  found_within xs zero y e = absurd (some_not y (sym e))
  found_within [] (suc n) y e = e
  found_within (x ∷ xs) (suc n) y e = by_test (p x) e (found_within xs n y)
    where
      by_test : (b : Bool) → cond b (Some x) (find p (take n xs)) ≡ Some y → (find p (take n xs) ≡ Some y → find p xs ≡ Some y) → cond b (Some x) (find p xs) ≡ Some y
      by_test true e rest = e
      by_test false e rest = rest e

  -- what is found among n after the i first, of which none passes, is what is found
  pub found_further : (xs : List X) (i n : ℕ) (r : Option X) → find p (take i xs) ≡ None → r ≡ find p (take n (drop i xs)) → is_some r ≡ true → r ≡ find p xs
  found_further xs i n None none at is = cc
  found_further xs i n (Some y) none at is = sym (find_past xs i none ∙ found_within (drop i xs) n y (sym at))

  -- where nothing is found among them, none of all these passes
  pub none_further : (xs : List X) (i n j : ℕ) (r : Option X) → j ≡ i + n → find p (take i xs) ≡ None → r ≡ find p (take n (drop i xs)) → is_some r ≡ false → find p (take j xs) ≡ None
  none_further xs i n j None at none found is = none_past xs i n j at none (sym found)
  none_further xs i n j (Some y) at none found is = cc
