-- The words of the contracts that speak of a span's indices. A set of indices is a function from an index to whether it is in the set.
use Rattle.std.specs.Prelude.{◌≡◌, ℕ, zero, suc, ◌+◌, ◌<◌, ◌/◌, ◌%◌, Bool, true, false, ◌==◌, ◌||◌, List, slice_index}
use Rattle.std.specs.Int.{bit_at}

-- Whether bit `k` is set in words of 64 bits, of which the first word and in each word the lowest bit come first.
-- No bit past the last word is set.
abbrev pub bit_of : List ℕ → ℕ → Bool
bit_of words k = bit_at (slice_index words (k / 64)) (k % 64) == 1

-- the set with the index `i` besides
abbrev pub with_bit : ℕ → (ℕ → Bool) → ℕ → Bool
with_bit i bits k = (k == i) || bits k

-- 1 for true, and 0 for false
abbrev pub one_if : Bool → ℕ
one_if true = 1
one_if false = 0

-- how many of the indices below `n` the set has
unfoldable pub count_below : ℕ → (ℕ → Bool) → ℕ
count_below zero bits = 0
count_below (suc n) bits = one_if (bits n) + count_below n bits

-- `k` is the lowest of `count` indices that the set does not have.
pub record HasFree (count : ℕ) (bits : ℕ → Bool) (k : ℕ) : Type 0 where
  pub inside : k < count
  pub free : bits k ≡ false
  pub lowest : (j : ℕ) → j < k → bits j ≡ true

-- The set has each of `count` indices.
abbrev pub IsFull : ℕ → (ℕ → Bool) → Type 0
IsFull count bits = (k : ℕ) → k < count → bits k ≡ true
