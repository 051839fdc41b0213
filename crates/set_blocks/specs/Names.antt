-- The words of the shared table of spans of a region of so many chunks, with the cells of the sets in blocks. Each word has a name;
-- its place is its offset in its part.
use Rattle.std.specs.Prelude.{ℕ, ◌+◌, ◌-◌, ◌*◌, ◌/◌, ◌%◌, ◌<◌, nat_lt, cond}
use Rattle.set_blocks.specs.declared.parts.TheConstants.{CHUNK_PAGES, EARLIER_WORDS, SETS, PARTS, PART_SETS, SPARES, BLOCK_CELLS}

-- A word is one of those before the sets (the lock, the generation, the counters, the workers' and the pages'), or that of a set, of the
-- blocks drawn of a part, of an entry of a set's spine, or of a cell of a block of a part.
pub data Name : Type 0 where
  EarlierWord : ℕ → Name
  SetWord : ℕ → Name
  DrawnWord : ℕ → Name
  EntryWord : ℕ → ℕ → Name
  CellWord : ℕ → ℕ → ℕ → Name

-- So many pages a region has.
abbrev pub pages_of : ℕ → ℕ
pages_of chunks = CHUNK_PAGES * chunks

-- So many blocks each part has: two for each chunk, one for each of its sets and one for each spare.
abbrev pub blocks_of : ℕ → ℕ
blocks_of chunks = 2 * chunks + (PART_SETS + SPARES)

-- A name is of the region where its page, set, part, entry, block and cell are: a spine has an entry for each chunk.
abbrev pub IsName : ℕ → Name → Type 0
IsName chunks (EarlierWord k) = k < pages_of chunks + EARLIER_WORDS
IsName chunks (SetWord s) = s < SETS
IsName chunks (DrawnWord p) = p < PARTS
IsName chunks (EntryWord s e) = (s < SETS) × (e < chunks)
IsName chunks (CellWord p b i) = (p < PARTS) × (b < blocks_of chunks) × (i < BLOCK_CELLS)

-- The first words of the parts, one behind another in this order.
abbrev pub first_set : ℕ → ℕ
first_set chunks = pages_of chunks + EARLIER_WORDS

abbrev pub first_drawn : ℕ → ℕ
first_drawn chunks = first_set chunks + SETS

abbrev pub first_entry : ℕ → ℕ
first_entry chunks = first_drawn chunks + PARTS

abbrev pub first_cell : ℕ → ℕ
first_cell chunks = first_entry chunks + chunks * SETS

-- So many words there are.
abbrev pub word_count : ℕ → ℕ
word_count chunks = first_cell chunks + blocks_of chunks * (BLOCK_CELLS * PARTS)

-- The spines stand in the order of their sets, the blocks in the order of their numbers, those of part 0 before those of part 1.
abbrev pub place : ℕ → Name → ℕ
place chunks (EarlierWord k) = k
place chunks (SetWord s) = s + first_set chunks
place chunks (DrawnWord p) = p + first_drawn chunks
place chunks (EntryWord s e) = (e + chunks * s) + first_entry chunks
place chunks (CellWord p b i) = (i + BLOCK_CELLS * (b + blocks_of chunks * p)) + first_cell chunks

-- The names of the entry and of the cell that stand so many words behind the first of their parts.
abbrev pub entry_at : ℕ → ℕ → Name
entry_at chunks w = EntryWord (w / chunks) (w % chunks)

abbrev pub cell_at : ℕ → ℕ → Name
cell_at chunks w = CellWord (w / BLOCK_CELLS / blocks_of chunks) (w / BLOCK_CELLS % blocks_of chunks) (w % BLOCK_CELLS)

-- The name of the word at a place: the last part that begins there or before has it.
abbrev pub name_at : ℕ → ℕ → Name
name_at chunks w =
    cond (nat_lt w (first_set chunks)) (EarlierWord w)
    (cond (nat_lt w (first_drawn chunks)) (SetWord (w - first_set chunks))
    (cond (nat_lt w (first_entry chunks)) (DrawnWord (w - first_drawn chunks))
    (cond (nat_lt w (first_cell chunks)) (entry_at chunks (w - first_entry chunks))
    (cell_at chunks (w - first_cell chunks)))))
