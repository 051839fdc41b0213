-- Words over plain lists.
use Rattle.std.specs.Prelude.{ℕ, zero, suc, ◌+◌, ◌==◌, ◌&&◌, ◌||◌, Bool, true, not, nat_lt, if◌then◌else◌, List, [], ◌∷◌, Option, Some, None, slice_set}
use Rattle.std.specs.List.{list_any, find, fold, range_with_len}

-- whether a number is in the list
abbrev pub has : ℕ → List ℕ → Bool
has x xs = list_any (λ y. y == x) xs

-- the list without the first item that passes the test
abbrev pub drop_first : {A : Type 0} → (A → Bool) → List A → List A
drop_first test [] = []
drop_first test (x ∷ xs) = if test x then xs else x ∷ drop_first test xs

-- the list with f of the first item that passes the test in its place
abbrev pub change_first : {A : Type 0} → (A → Bool) → (A → A) → List A → List A
change_first test f [] = []
change_first test f (x ∷ xs) = if test x then f x ∷ xs else x ∷ change_first test f xs

-- the list without the first place of a number
abbrev pub erase : ℕ → List ℕ → List ℕ
erase x xs = drop_first (λ y. y == x) xs

-- the list without the first place of each of n numbers, from `start` on
abbrev pub erase_run : ℕ → ℕ → List ℕ → List ℕ
erase_run start zero xs = xs
erase_run start (suc n) xs = erase (start + n) (erase_run start n xs)

-- the first number of the list
abbrev pub first_of : List ℕ → Option ℕ
first_of [] = None
first_of (x ∷ xs) = Some x

-- the list with x at each of the n places from `start` on that it has
abbrev pub put_run : {A : Type 0} → List A → ℕ → ℕ → A → List A
put_run xs start zero x = xs
put_run xs start (suc n) x = slice_set (put_run xs start n x) (start + n) x

-- the list of cells with x at a place, with zeros between its end and that place
abbrev pub put_cell : List ℕ → ℕ → ℕ → List ℕ
put_cell [] zero x = x ∷ []
put_cell [] (suc i) x = 0 ∷ put_cell [] i x
put_cell (y ∷ ys) zero x = x ∷ ys
put_cell (y ∷ ys) (suc i) x = y ∷ put_cell ys i x

-- whether a pair stands before another: by the first parts, and then by the second ones
abbrev pub is_before : ℕ × ℕ → ℕ × ℕ → Bool
is_before a b = nat_lt a.0 b.0 || (a.0 == b.0 && nat_lt a.1 b.1)

-- whether the pairs strictly rise, and begin behind a
abbrev pub rises_after : ℕ × ℕ → List (ℕ × ℕ) → Bool
rises_after a [] = true
rises_after a (b ∷ rest) = is_before a b && rises_after b rest

-- whether the pairs strictly rise
abbrev pub rises : List (ℕ × ℕ) → Bool
rises [] = true
rises (a ∷ rest) = rises_after a rest

-- the least number below n that the list does not have
abbrev pub least_outside : List ℕ → ℕ → Option ℕ
least_outside xs n = find (λ i. not (has i xs)) (range_with_len 0 n)

-- the least number of the list
abbrev pub least_of : List ℕ → Option ℕ
least_of [] = None
least_of (x ∷ xs) = Some (fold (λ a y. if nat_lt y a then y else a) x xs)
