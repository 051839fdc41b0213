-- How many numbers pass a test.
use Rattle.std.specs.Prelude.{ℕ, zero, suc, ◌+◌, Bool, true, false}

-- One for a test that passes, otherwise nothing.
abbrev pub one_if : Bool → ℕ
one_if true = 1
one_if false = 0

-- How many of the numbers below n pass a test.
unfoldable pub count_below : ℕ → (ℕ → Bool) → ℕ
count_below zero test = 0
count_below (suc k) test = one_if (test k) + count_below k test
