-- What is in a list, and in one that was mapped, sorted or made longer.
use Rattle.std.proofs.Common.{◌≡◌, ℕ, suc, ◌<◌, List, [], ◌∷◌, ◌++◌, map, length, get_or, refl, ap, arith, ◌⊎◌, inl, inr, subst}
use Rattle.std.specs.List.{AllByRecursion}
use Rattle.std.specs.List.Sorted.{IsPermutation}
use Rattle.std.proofs.lemmas.List.Sorted.{All-permutation}
use Rattle.std.proofs.lemmas.List.Elements.{All-from_recursion, recursion_from_All}
use Rattle.page_alloc.specs.Lists.{In, AllApart}

all-in : {X : Type 0} (xs ys : List X) → ((x : X) → In x xs → In x ys) → AllByRecursion (λ x. In x ys) xs
all-in [] ys each = tt
all-in (x ∷ xs) ys each = (each x (inl refl), all-in xs ys (λ y h. each y (inr h)))

in-all : {X : Type 0} (P : X → Type 0) (xs : List X) (x : X) → AllByRecursion P xs → In x xs → P x
in-all P [] x all h = absurd h
in-all P (y ∷ xs) x all h = elim h [ inl here ↦ subst P here all.0 | inr there ↦ in-all P xs x all.1 there ]

pub from-in : {X : Type 0} (P : X → Type 0) (xs : List X) → ((x : X) → In x xs → P x) → AllByRecursion P xs
from-in P [] each = tt
from-in P (x ∷ xs) each = (each x (inl refl), from-in P xs (λ y h. each y (inr h)))

pub from-permutation : {X : Type 0} (xs ys : List X) (y : X) → IsPermutation xs ys → In y ys → In y xs
from-permutation xs ys y same h =
    in-all (λ x. In x xs) ys y (recursion_from_All (λ x. In x xs) ys (All-permutation (λ x. In x xs) xs ys same (All-from_recursion (λ x. In x xs) xs (all-in xs xs (λ x i. i))))) h

pub in-map : {X Y : Type 0} (f : X → Y) (xs : List X) (x : X) → In x xs → In (f x) (map f xs)
in-map f [] x h = absurd h
in-map f (y ∷ xs) x h = elim h [ inl here ↦ inl (ap f here) | inr there ↦ inr (in-map f xs x there) ]

pub from-map : {X Y : Type 0} (f : X → Y) (xs : List X) (y : Y) → In y (map f xs) → (x : X) × In x xs × (f x ≡ y)
from-map f [] y h = absurd h
from-map f (x ∷ xs) y h = elim h [ inl here ↦ (x, inl refl, here) | inr there ↦ (let at = from-map f xs y there in (at.0, inr at.1, at.2)) ]

pub map-apart : {X Y : Type 0} (f : X → Y) (R : Y → Y → Type 0) (xs : List X) → AllApart (λ a b. R (f a) (f b)) xs → AllApart R (map f xs)
map-apart f R [] apart = tt
map-apart f R (x ∷ xs) apart = ((λ y h. (let at = from-map f xs y h in subst (λ z. R (f x) z) at.2 (apart.0 at.0 at.1))), map-apart f R xs apart.1)

place-of : {X : Type 0} (xs : List X) (y : X) → In y xs → (j : ℕ) × (j < length xs) × ((d : X) → get_or xs j d ≡ y)
place-of [] y h = absurd h
place-of (x ∷ xs) y h = elim h [
  | inl here ↦ (0, omega arith, λ d. here)
  | inr there ↦ (let at = place-of xs y there in (suc at.0, (let lt = at.1 in omega arith), λ d. at.2 d))
]

pub from-places : {X : Type 0} (R : X → X → Type 0) (xs : List X) → ((i j : ℕ) (d : X) → i < j → j < length xs → R (get_or xs i d) (get_or xs j d)) → AllApart R xs
from-places R [] each = tt
from-places R (x ∷ xs) each = (
  (λ y h. (let at = place-of xs y h in subst (λ z. R x z) (at.2 x) (each 0 (suc at.0) x (omega arith) (let lt = at.1 in omega arith)))),
  from-places R xs (λ i j d less lt. each (suc i) (suc j) d (omega arith) (omega arith)),
)

pub in-more : {X : Type 0} (x y : X) (xs : List X) → In x (xs ++ y ∷ []) → In x xs ⊎ (y ≡ x)
in-more x y [] i = elim i [ inl same ↦ inr same | inr none ↦ absurd none ]
in-more x y (z ∷ zs) i = elim i [ inl same ↦ inl (inl same) | inr more ↦ elim (in-more x y zs more) [ inl here ↦ inl (inr here) | inr last ↦ inr last ] ]

pub in-front : {X : Type 0} (x y : X) (xs : List X) → In x xs → In x (xs ++ y ∷ [])
in-front x y [] h = absurd h
in-front x y (z ∷ xs) h = elim h [ inl here ↦ inl here | inr there ↦ inr (in-front x y xs there) ]

pub in-last : {X : Type 0} (y : X) (xs : List X) → In y (xs ++ y ∷ [])
in-last y [] = inl refl
in-last y (z ∷ xs) = inr (in-last y xs)
