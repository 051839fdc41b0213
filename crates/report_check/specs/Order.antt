-- Numbers that rise, and the place of a bucket as of a mark end among them.
use Rattle.std.specs.Prelude.{ℕ, ◌+◌, ◌*◌, ◌^◌, ◌≤◌, ◌<◌, List, length, slice_index}

-- The numbers rise.
abbrev pub AreRising : List ℕ → Type 0
AreRising xs = (i j : ℕ) → i ≤ j → j < length xs → slice_index xs i ≤ slice_index xs j

-- The place of a stack, a slot and a mark end: places rise by stack, then by slot, then by mark end.
unfoldable pub place_of : ℕ → ℕ → ℕ → ℕ
place_of stack slot mark = 2 ^ 96 * stack + 2 ^ 32 * slot + mark
