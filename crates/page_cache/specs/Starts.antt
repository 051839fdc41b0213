-- The places where runs of ones of a word begin.
use Rattle.std.specs.Prelude.{◌≡◌, ℕ, true}
use Rattle.page_cache.specs.Words.{has_bit}
use Rattle.page_cache.specs.Runs.{IsRun}

-- `starts` has a 1 exactly where a run of n ones of the word begins
pub record IsStartsOf (word n starts : ℕ) : Type 0 where
  pub begins : (place : ℕ) → has_bit starts place ≡ true → IsRun (has_bit word) place n
  pub all : (place : ℕ) → IsRun (has_bit word) place n → has_bit starts place ≡ true
