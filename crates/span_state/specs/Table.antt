-- How the rows of pages lie in memory: for each page stands the place of its row, counted from 1, or 0 where it has none.
use Rattle.std.specs.Prelude.{◌≡◌, ℕ, zero, suc, ◌<◌, ◌≤◌, List, [], map, slice_index, slice_index_or}

-- the row at a place; at 0 is an empty one
abbrev pub row_at : List (List ℕ) → ℕ → List ℕ
row_at rows zero = []
row_at rows (suc before) = slice_index_or rows before []

-- the row of each page
abbrev pub table_of : List ℕ → List (List ℕ) → List (List ℕ)
table_of places rows = map (row_at rows) places

-- The places are those of so many rows, and no two pages have one row.
pub record ArePlaces (places : List ℕ) (count : ℕ) : Type 0 where
  pub inside : (page : ℕ) → slice_index places page ≤ count
  pub apart : (page other : ℕ) → slice_index places page ≡ slice_index places other → 0 < slice_index places page → page ≡ other
