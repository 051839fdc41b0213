-- The numbers of the sets of swept and unswept spans.
use Rattle.std.specs.Prelude.{ℕ, ◌+◌, ◌*◌, ◌/◌, ◌%◌, ◌==◌, Bool}

-- The number of a set: its span class, whether it is full, and its part at the generation g, the swept or the unswept one.
abbrev pub swept_set : ℕ → ℕ → ℕ → ℕ
swept_set g class full = 4 * class + 2 * full + (g / 2) % 2

abbrev pub unswept_set : ℕ → ℕ → ℕ → ℕ
unswept_set g class full = 4 * class + 2 * full + (g / 2 + 1) % 2

-- Whether a set is a full one.
abbrev pub is_full_set : ℕ → Bool
is_full_set set = (set / 2) % 2 == 1
