-- What tables beside lists tell.
use Rattle.std.specs.Prelude.{◌≡◌, ◌<◌, ◌≤◌, ℕ, Bool, true, false, List, length, slice_index_or}
use Rattle.sweep_laws.specs.Lists.{has}

-- for each number below its length the table tells whether the list has it
abbrev pub TellsMembers : List Bool → List ℕ → Type 0
TellsMembers seen xs = (i : ℕ) → i < length seen → slice_index_or seen i false ≡ has i xs

-- all numbers below n are in the list
abbrev pub AreMembers : ℕ → List ℕ → Type 0
AreMembers n xs = (i : ℕ) → i < n → has i xs ≡ true

-- n is the least number that the list does not have, as far as a u32 goes
pub record IsLeastOutside (n : ℕ) (xs : List ℕ) : Type 0 where
  pub below : AreMembers n xs
  pub outside : n < 4294967295 → has n xs ≡ false

-- the table tells whether the list has a number; where the list is within it, no other number is there
pub record AreTold (seen : List Bool) (within : Bool) (xs : List ℕ) : Type 0 where
  pub told : TellsMembers seen xs
  pub beyond : within ≡ true → (i : ℕ) → length seen ≤ i → has i xs ≡ false
