-- Runs of ones in one word of 64 bits.
use Rattle.std.specs.Prelude.{◌≡◌, ℕ, ◌+◌, ◌-◌, ◌<◌, ◌≤◌, true, false}
use Rattle.page_bitmap.specs.Words.{has_bit}

-- the n places from `place` on are places of the word, and it has a 1 at each
pub record IsBitRun (word place n : ℕ) : Type 0 where
  pub within : place + n ≤ 64
  pub each : (k : ℕ) → place ≤ k → k < place + n → has_bit word k ≡ true

-- `place` is the lowest place that begins a run of n ones
pub record IsFirstBitRun (word n place : ℕ) : Type 0 where
  pub run : IsBitRun word place n
  pub least : (other : ℕ) → other < place → ¬ IsBitRun word other n

-- `starts` has a 1 exactly where a run of n ones of the word begins
pub record IsStartsOf (word n starts : ℕ) : Type 0 where
  pub begins : (place : ℕ) → has_bit starts place ≡ true → IsBitRun word place n
  pub all : (place : ℕ) → IsBitRun word place n → has_bit starts place ≡ true

-- the word's lowest n places are ones, and the next one is not
pub record IsLowOnes (word n : ℕ) : Type 0 where
  pub within : n ≤ 64
  pub ones : (place : ℕ) → place < n → has_bit word place ≡ true
  pub stops : n < 64 → has_bit word n ≡ false

-- the word's highest n places are ones, and the next one is not
pub record IsHighOnes (word n : ℕ) : Type 0 where
  pub within : n ≤ 64
  pub ones : (place : ℕ) → 64 - n ≤ place → place < 64 → has_bit word place ≡ true
  pub stops : n < 64 → has_bit word (63 - n) ≡ false
