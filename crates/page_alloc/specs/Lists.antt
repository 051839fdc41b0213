-- What is in a list, and how many of its items pass a test.
use Rattle.std.specs.Prelude.{◌≡◌, ℕ, ◌+◌, Bool, List, [], ◌∷◌, length, ◌⊎◌}
pub use Rattle.page_bitmap.specs.Counts.{one_if}
unfoldable pub use Rattle.page_bitmap.specs.Counts.{count_below}

-- An item is one of the list's.
abbrev pub In : {X : Type 0} → X → List X → Type 0
In x [] = ⊥
In x (y ∷ ys) = (y ≡ x) ⊎ In x ys

-- An item is number n of a list that has its newest item first, where the oldest is number 0.
abbrev pub IsNumber : {X : Type 0} → ℕ → X → List X → Type 0
IsNumber n x [] = ⊥
IsNumber n x (newest ∷ past) = ((length past ≡ n) × (newest ≡ x)) ⊎ IsNumber n x past

-- How many items pass a test.
abbrev pub count : {X : Type 0} → (X → Bool) → List X → ℕ
count test [] = 0
count test (x ∷ xs) = one_if (test x) + count test xs

-- Every two items at different places of the list are related.
abbrev pub AllApart : {X : Type 0} → (X → X → Type 0) → List X → Type 0
AllApart R [] = Unit {0}
AllApart R (x ∷ xs) = ((y : _) → In y xs → R x y) × AllApart R xs
