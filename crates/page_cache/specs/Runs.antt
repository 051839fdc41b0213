-- Runs in a set of numbers, as the places of a word or the pages of a block. A set says of each number whether it has it.
use Rattle.std.specs.Prelude.{◌≡◌, ℕ, ◌+◌, ◌<◌, ◌≤◌, Bool, true, false}

-- the set has each of the n numbers from `first` on
abbrev pub IsRun : (ℕ → Bool) → ℕ → ℕ → Type 0
IsRun set first n = (k : ℕ) → first ≤ k → k < first + n → set k ≡ true

-- no run of n numbers begins anywhere
abbrev pub HasNoRun : (ℕ → Bool) → ℕ → Type 0
HasNoRun set n = (first : ℕ) → ¬ IsRun set first n

-- a run of n numbers begins at `first`, and none begins before it
pub record IsFirstRun (set : ℕ → Bool) (n first : ℕ) : Type 0 where
  pub run : IsRun set first n
  pub least : (other : ℕ) → other < first → ¬ IsRun set other n

-- the n numbers from `first` on have left the set, and every other number is in it as before
pub record LosesRun (old new : ℕ → Bool) (first n : ℕ) : Type 0 where
  pub inside : (k : ℕ) → first ≤ k → k < first + n → new k ≡ false
  pub below : (k : ℕ) → k < first → new k ≡ old k
  pub above : (k : ℕ) → first + n ≤ k → new k ≡ old k
