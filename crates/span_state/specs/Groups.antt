-- How marks are kept: for each page a row of words of 64 bits, each for a group of 64 neighbouring indices.
use Rattle.std.specs.Prelude.{ℕ, zero, suc, ◌+◌, ◌*◌, ◌%◌, ◌^◌, ◌≤◌, ◌==◌, List, [], ◌∷◌, ◌++◌, length, slice_index, slice_index_or, if◌then◌else◌}
use Rattle.std.specs.Int.{bit_at, bit_not, w64}
use Rattle.std.specs.Int.Bits.{bit_and}

-- the pairs that the lowest `n` bits of a group's word mark
abbrev pub word_pairs : ℕ → ℕ → ℕ → ℕ → List (ℕ × ℕ)
word_pairs zero page group word = []
word_pairs (suc n) page group word = word_pairs n page group word ++ (if bit_at word n == 1 then (page, 64 * group + n) ∷ [] else [])

-- the pairs that a group's word marks
unfoldable pub group_pairs : (ℕ × ℕ) × ℕ → List (ℕ × ℕ)
group_pairs e = word_pairs 64 e.0.0 e.0.1 e.1

-- the pairs that the words of a page's first `n` groups mark
abbrev pub page_pairs : ℕ → ℕ → (ℕ → ℕ) → List (ℕ × ℕ)
page_pairs zero page words = []
page_pairs (suc n) page words = page_pairs n page words ++ group_pairs ((page, n), words n)

-- the pairs that the words of the first `n` pages mark, of which each has so many groups
abbrev pub grid_pairs : ℕ → (ℕ → ℕ) → (ℕ → ℕ → ℕ) → List (ℕ × ℕ)
grid_pairs zero sizes words = []
grid_pairs (suc n) sizes words = grid_pairs n sizes words ++ page_pairs (sizes n) n (words n)

-- the row of a page; a page past the last row has an empty one
abbrev pub row_of : List (List ℕ) → ℕ → List ℕ
row_of rows page = slice_index_or rows page []

-- the word of a group; a group past the end of its row marks nothing
abbrev pub word_of : List (List ℕ) → ℕ → ℕ → ℕ
word_of rows page group = slice_index (row_of rows page) group

-- a word with its bit i cleared
abbrev pub clear_bit : ℕ → ℕ → ℕ
clear_bit word i = bit_and word (bit_not w64 (1 * 2 ^ i % 2 ^ 64))

-- the pairs that all words mark
abbrev pub pairs_of : List (List ℕ) → List (ℕ × ℕ)
pairs_of rows = grid_pairs (length rows) (λ page. length (row_of rows page)) (word_of rows)

-- The rows are those of pages and groups whose numbers and indices are below 2 ^ 32.
pub record AreRows (rows : List (List ℕ)) : Type 0 where
  pub pages : length rows ≤ 2 ^ 32
  pub groups : (page : ℕ) → length (row_of rows page) ≤ 2 ^ 26
