-- How many blocks the used cells of sets take.
use Rattle.std.specs.Prelude.{ℕ, List, sum_by}
use Rattle.std.specs.Int.{div_ceil}
use Rattle.set_blocks.specs.declared.parts.TheConstants.{BLOCK_CELLS}

-- A set whose cells below this index are used has so many blocks: the last may be used in part.
abbrev pub blocks_below : ℕ → ℕ
blocks_below tail = div_ceil tail BLOCK_CELLS

-- The blocks of sets with these tails together.
abbrev pub blocks_for : List ℕ → ℕ
blocks_for tails = sum_by blocks_below tails
