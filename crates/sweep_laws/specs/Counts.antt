-- How often lists name a number, and sums over lists.
use Rattle.std.specs.Prelude.{ℕ, ◌+◌, Bool, true, false, ◌==◌, List, [], ◌∷◌}

-- 1 where the test holds, else 0
abbrev pub one_if : Bool → ℕ
one_if true = 1
one_if false = 0

-- how often the number p stands in the list
abbrev pub times : ℕ → List ℕ → ℕ
times p [] = 0
times p (x ∷ xs) = one_if (x == p) + times p xs

-- the sum of f over a list
abbrev pub total : {A : Type 0} → (A → ℕ) → List A → ℕ
total f [] = 0
total f (x ∷ xs) = f x + total f xs

-- the sum of f over a list whose items are numbered from k on
abbrev pub total_from : {A : Type 0} → (ℕ → A → ℕ) → ℕ → List A → ℕ
total_from f k [] = 0
total_from f k (x ∷ xs) = f k x + total_from f (k + 1) xs
