-- Lists seen through a function: what is found in them, and what changes.
use Rattle.std.proofs.Common.{◌≡◌, ℕ, ◌+◌, ◌<◌, Bool, true, false, cond, not, List, [], ◌∷◌, length, get_or, set, map, refl, sym, ap, ◌∙◌, Option, Some, None, option_map}
use Rattle.std.specs.List.{position, prefix_len, find}
use Rattle.std.specs.Option.{option_copied}
use Rattle.std.proofs.lemmas.List.{length-map, map-set, get_or-map}
use denote.Ref.{Bor}

module _ {A B : Type 0} (v : A → B) where
  prefix-map : (p : B → Bool) (xs : List A) → prefix_len p (map v xs) ≡ prefix_len (λ x. p (v x)) xs
  prefix-map p [] = refl
  prefix-map p (x ∷ xs) = ap (λ n. cond (p (v x)) (1 + n) 0) (prefix-map p xs)

  pub position-map : (p : B → Bool) (xs : List A) → position p (map v xs) ≡ position (λ x. p (v x)) xs
  position-map p xs = rw (prefix-map (λ x. not (p x)) xs, length-map xs v) refl

  pub find-map : (p : B → Bool) (xs : List A) → find p (map v xs) ≡ option_map v (find (λ x. p (v x)) xs)
  find-map p [] = refl
  find-map p (x ∷ xs) = by_test (p (v x)) (Some (v x)) (find p (map v xs)) (Some x) (find (λ x. p (v x)) xs) refl (find-map p xs)
    where
      by_test : (b : Bool) (y z : Option B) (y' z' : Option A) → y ≡ option_map v y' → z ≡ option_map v z' → cond b y z ≡ option_map v (cond b y' z')
      by_test true y z y' z' e f = e
      by_test false y z y' z' e f = f

  pub copied-map : (r : Option (Bor A)) → option_map (λ x. v x.now) r ≡ option_map v (option_copied r)
  copied-map None = refl
  copied-map (Some x) = refl

  -- one item changes
  pub map-changed : (xs : List A) (i : ℕ) (d : A) (e : B) (y : A) (f : B → B) → i < length xs → v y ≡ f (v (get_or xs i d)) → map v (set xs i y) ≡ set (map v xs) i (f (get_or (map v xs) i e))
  map-changed xs i d e y f low is =
      map-set v xs i y ∙ ap (λ z. set (map v xs) i z) (is ∙ ap f (sym (get_or-map v xs i d e low)))

  pub map-const : {C : Type 0} (a : A) (xs : List C) → map v (map (λ _. a) xs) ≡ map (λ _. v a) xs
  map-const a [] = refl
  map-const a (x ∷ xs) = ap (λ ys. v a ∷ ys) (map-const a xs)
