-- The ones of a word of 64 bits.
use Rattle.std.specs.Prelude.{ℕ, Bool, ◌==◌}
use Rattle.std.specs.Int.{bit_at}

-- the word has a 1 at this place, counted from the lowest
unfoldable pub has_bit : ℕ → ℕ → Bool
has_bit word place = bit_at word place == 1
