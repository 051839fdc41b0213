-- The map of pages that eight words of 64 bits hold.
use Rattle.std.specs.Prelude.{◌≡◌, ℕ, ◌+◌, ◌*◌, ◌/◌, ◌%◌, ◌<◌, Bool, ◌&&◌, List, nat_lt, ◌==◌, slice_index}
use Rattle.std.specs.Int.{bit_at}

-- the word has a 1 at this place, counted from the lowest
unfoldable pub has_bit : ℕ → ℕ → Bool
has_bit word place = bit_at word place == 1

-- page p, below 512, is bit p % 64 of word p / 64
unfoldable pub has_page : List ℕ → ℕ → Bool
has_page words p = nat_lt p 512 && has_bit (slice_index words (p / 64)) (p % 64)

-- page p is one of the 64 pages that the word with this index has
abbrev pub in_word : ℕ → ℕ → Bool
in_word index p = p / 64 == index

-- the bits of a word are the 64 pages of a map from page 64 * index on
abbrev pub IsWordOf : (ℕ → Bool) → ℕ → ℕ → Type 0
IsWordOf map index word = (k : ℕ) → k < 64 → has_bit word k ≡ map (64 * index + k)
