-- Lists of places, of which some are empty: what is found there, and what changes.
use Rattle.std.proofs.Common.{◌≡◌, ℕ, zero, suc, ◌+◌, ◌<◌, Bool, true, false, cond, List, [], ◌∷◌, ◌++◌, length, get_or, set, map, refl, sym, ap, ◌∙◌, Option, Some, None, option_map, is_some, arith}
use Rattle.std.specs.List.{All, find, filter, position, count_by}
use Rattle.std.specs.Option.{IfSome}
use Rattle.std.proofs.lemmas.List.Elements.{All-nil, All-cons, All-head, All-tail}
use Rattle.std.proofs.lemmas.List.Quantifiers.{position-Some}
use Rattle.std.proofs.lemmas.List.Sums.{sum_by-cons}
use Rattle.sweep_laws.specs.Lists.{drop_first, change_first}
use Rattle.sweep_lists.specs.There.{there, passes}
use Rattle.sweep_lists.proofs.Firsts.{none-fails}

module _ {A : Type 0} (t : A → Bool) where
  find-found : (xs : List (Option A)) (i : ℕ) → i < length xs → passes t (get_or xs i None) ≡ true → ((k : ℕ) → k < i → passes t (get_or xs k None) ≡ false) → find t (there xs) ≡ get_or xs i None
  find-found [] i low at before = absurd (omega arith)
  find-found (None ∷ xs) zero low at before = absurd (cc)
  find-found (None ∷ xs) (suc i) low at before = find-found xs i (omega arith) at (λ k l. before (suc k) (omega arith))
  find-found (Some x ∷ xs) zero low at before = rw at refl
  find-found (Some x ∷ xs) (suc i) low at before = rw (before zero (omega arith)) (find-found xs i (omega arith) at (λ k l. before (suc k) (omega arith)))

  find-none : (xs : List (Option A)) → ((k : ℕ) → k < length xs → passes t (get_or xs k None) ≡ false) → find t (there xs) ≡ None
  find-none [] before = refl
  find-none (None ∷ xs) before = find-none xs (λ k l. before (suc k) (omega arith))
  find-none (Some x ∷ xs) before = rw (before zero (omega arith)) (find-none xs (λ k l. before (suc k) (omega arith)))

  change-found : (f : A → A) (xs : List (Option A)) (i : ℕ) → i < length xs → passes t (get_or xs i None) ≡ true → ((k : ℕ) → k < i → passes t (get_or xs k None) ≡ false)
      → change_first t f (there xs) ≡ there (set xs i (option_map f (get_or xs i None)))
  change-found f [] i low at before = absurd (omega arith)
  change-found f (None ∷ xs) zero low at before = absurd (cc)
  change-found f (None ∷ xs) (suc i) low at before = change-found f xs i (omega arith) at (λ k l. before (suc k) (omega arith))
  change-found f (Some x ∷ xs) zero low at before = rw at refl
  change-found f (Some x ∷ xs) (suc i) low at before =
      rw (before zero (omega arith)) (ap (λ ys. x ∷ ys) (change-found f xs i (omega arith) at (λ k l. before (suc k) (omega arith))))

  change-none : (f : A → A) (xs : List (Option A)) → ((k : ℕ) → k < length xs → passes t (get_or xs k None) ≡ false) → change_first t f (there xs) ≡ there xs
  change-none f [] before = refl
  change-none f (None ∷ xs) before = change-none f xs (λ k l. before (suc k) (omega arith))
  change-none f (Some x ∷ xs) before = rw (before zero (omega arith)) (ap (λ ys. x ∷ ys) (change-none f xs (λ k l. before (suc k) (omega arith))))

  drop-found : (xs : List (Option A)) (i : ℕ) → i < length xs → passes t (get_or xs i None) ≡ true → ((k : ℕ) → k < i → passes t (get_or xs k None) ≡ false)
      → drop_first t (there xs) ≡ there (set xs i None)
  drop-found [] i low at before = absurd (omega arith)
  drop-found (None ∷ xs) zero low at before = absurd (cc)
  drop-found (None ∷ xs) (suc i) low at before = drop-found xs i (omega arith) at (λ k l. before (suc k) (omega arith))
  drop-found (Some x ∷ xs) zero low at before = rw at refl
  drop-found (Some x ∷ xs) (suc i) low at before =
      rw (before zero (omega arith)) (ap (λ ys. x ∷ ys) (drop-found xs i (omega arith) at (λ k l. before (suc k) (omega arith))))

  drop-none : (xs : List (Option A)) → ((k : ℕ) → k < length xs → passes t (get_or xs k None) ≡ false) → drop_first t (there xs) ≡ there xs
  drop-none [] before = refl
  drop-none (None ∷ xs) before = drop-none xs (λ k l. before (suc k) (omega arith))
  drop-none (Some x ∷ xs) before = rw (before zero (omega arith)) (ap (λ ys. x ∷ ys) (drop-none xs (λ k l. before (suc k) (omega arith))))

  -- the first that passes the test, by its place

  pub find-at : (xs : List (Option A)) (i : ℕ) → position (passes t) xs ≡ Some i → find t (there xs) ≡ get_or xs i None
  find-at xs i e = let p = position-Some (passes t) xs i None e in find-found xs i p.0 p.1 p.2

  pub find-absent : (xs : List (Option A)) → position (passes t) xs ≡ None → find t (there xs) ≡ None
  find-absent xs e = find-none xs (none-fails (passes t) xs None e)

  pub change-at : (f : A → A) (xs : List (Option A)) (i : ℕ) → position (passes t) xs ≡ Some i → change_first t f (there xs) ≡ there (set xs i (option_map f (get_or xs i None)))
  change-at f xs i e = let p = position-Some (passes t) xs i None e in change-found f xs i p.0 p.1 p.2

  pub change-absent : (f : A → A) (xs : List (Option A)) → position (passes t) xs ≡ None → change_first t f (there xs) ≡ there xs
  change-absent f xs e = change-none f xs (none-fails (passes t) xs None e)

  pub drop-at : (xs : List (Option A)) (i : ℕ) → position (passes t) xs ≡ Some i → drop_first t (there xs) ≡ there (set xs i None)
  drop-at xs i e = let p = position-Some (passes t) xs i None e in drop-found xs i p.0 p.1 p.2

  pub drop-absent : (xs : List (Option A)) → position (passes t) xs ≡ None → drop_first t (there xs) ≡ there xs
  drop-absent xs e = drop-none xs (none-fails (passes t) xs None e)

module _ {A : Type 0} where
  pub there-push : (xs : List (Option A)) (x : A) → there (xs ++ Some x ∷ []) ≡ there xs ++ x ∷ []
  there-push [] x = refl
  there-push (None ∷ xs) x = there-push xs x
  there-push (Some y ∷ xs) x = ap (λ ys. y ∷ ys) (there-push xs x)

  pub there-map : {B : Type 0} (f : A → B) (xs : List (Option A)) → there (map (option_map f) xs) ≡ map f (there xs)
  there-map f [] = refl
  there-map f (None ∷ xs) = there-map f xs
  there-map f (Some x ∷ xs) = ap (λ ys. f x ∷ ys) (there-map f xs)

  -- how many are there
  pub there-length : (xs : List (Option A)) → length (there xs) ≡ count_by is_some xs
  there-length [] = refl
  there-length (None ∷ xs) =
      let e : count_by is_some (None ∷ xs) ≡ 0 + count_by is_some xs = sum_by-cons (λ (x : Option A). cond (is_some x) 1 0) None xs in
      let rest = there-length xs in
      omega arith
  there-length (Some x ∷ xs) =
      let e : count_by is_some (Some x ∷ xs) ≡ 1 + count_by is_some xs = sum_by-cons (λ (y : Option A). cond (is_some y) 1 0) (Some x) xs in
      let rest = there-length xs in
      omega arith

  -- what holds of all that are there holds at each place
  pub All-there : (P : A → Type 0) (xs : List (Option A)) → All P (there xs) → All (λ x. IfSome x P) xs
  All-there P [] all = All-nil (λ x. IfSome x P)
  All-there P (None ∷ xs) all = All-cons (λ x. IfSome x P) None xs tt (All-there P xs all)
  All-there P (Some x ∷ xs) all = All-cons (λ x. IfSome x P) (Some x) xs (All-head P x (there xs) all) (All-there P xs (All-tail P x (there xs) all))

-- the places without the empty ones, seen through a function
module _ {A B : Type 0} (v : A → B) where
  pub there-filled : (xs : List (Option A)) → there (map (option_map v) (filter is_some xs)) ≡ there (map (option_map v) xs)
  there-filled [] = refl
  there-filled (None ∷ xs) = there-filled xs
  there-filled (Some x ∷ xs) = ap (λ ys. v x ∷ ys) (there-filled xs)

  pub length-filled : (xs : List (Option A)) → length (filter is_some xs) ≡ length (there (map (option_map v) xs))
  length-filled [] = refl
  length-filled (None ∷ xs) = length-filled xs
  length-filled (Some x ∷ xs) = ap (λ n. suc n) (length-filled xs)

  pub count-filled : (t : Option B → Bool) → t None ≡ false → (xs : List (Option A)) → count_by t (map (option_map v) (filter is_some xs)) ≡ count_by t (map (option_map v) xs)
  count-filled t none [] = refl
  count-filled t none (None ∷ xs) =
      let e = sum_by-cons (λ (x : Option B). cond (t x) 1 0) None (map (option_map v) xs) ∙ ap (λ b. cond b 1 0 + count_by t (map (option_map v) xs)) none in
      let rest = count-filled t none xs in
      omega arith
  count-filled t none (Some x ∷ xs) =
      sum_by-cons (λ (y : Option B). cond (t y) 1 0) (Some (v x)) (map (option_map v) (filter is_some xs))
      ∙ ap (λ n. cond (t (Some (v x))) 1 0 + n) (count-filled t none xs)
      ∙ sym (sum_by-cons (λ (y : Option B). cond (t y) 1 0) (Some (v x)) (map (option_map v) xs))

pub All-filled : {A : Type 0} (P : Option A → Type 0) (xs : List (Option A)) → All P xs → All P (filter is_some xs)
All-filled P [] all = all
All-filled P (None ∷ xs) all = All-filled P xs (All-tail P None xs all)
All-filled P (Some x ∷ xs) all = All-cons P (Some x) (filter is_some xs) (All-head P (Some x) xs all) (All-filled P xs (All-tail P (Some x) xs all))
