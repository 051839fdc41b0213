-- What comparisons of numbers answer.
use Rattle.std.proofs.Common.{◌≡◌, ℕ, ◌<◌, ◌≤◌, true, false, nat_lt, nat_le, arith}
use Rattle.std.proofs.lemmas.Bool.Decides.{nat_tests}

pub below_true : (a b : ℕ) → a < b → nat_lt a b ≡ true
below_true a b less = grind (arith, nat_tests)

pub below_false : (a b : ℕ) → b ≤ a → nat_lt a b ≡ false
below_false a b less = grind (arith, nat_tests)

pub at_most : (a b : ℕ) → a ≤ b → nat_le a b ≡ true
at_most a b le = grind (arith, nat_tests)

pub above : (a b : ℕ) → b < a → nat_le a b ≡ false
above a b less = grind (arith, nat_tests)
