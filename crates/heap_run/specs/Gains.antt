-- What lists got behind what they had.
use Rattle.std.specs.Prelude.{◌≡◌, ℕ, List, [], ◌∷◌, ◌++◌, drop, length, slice_index_or}

-- What a list got behind what it had.
abbrev pub behind : {X : Type 0} → List X → List X → List X
behind old new = drop (length old) new

-- What each of the lists got, one after another.
abbrev pub gains : {X : Type 0} → List (List X) → List (List X) → List (List X)
gains [] new = []
gains (o ∷ old) [] = []
gains (o ∷ old) (n ∷ new) = behind o n ∷ gains old new

-- A list has what it had, and behind that what it got.
abbrev pub HasKept : {X : Type 0} → List X → List X → Type 0
HasKept old new = new ≡ old ++ behind old new

-- So has each of the lists.
abbrev pub HaveKept : {X : Type 0} → List (List X) → List (List X) → Type 0
HaveKept old new = (w : ℕ) → HasKept (slice_index_or old w []) (slice_index_or new w [])
