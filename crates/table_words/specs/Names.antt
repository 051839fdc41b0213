-- The words of the shared table of a region of R pages. Each word has a name; its place is its offset in the block of its kind.
use Rattle.std.specs.Prelude.{ℕ, ◌+◌, ◌-◌, ◌*◌, ◌/◌, ◌%◌, ◌<◌, nat_lt, cond}
use Rattle.set_blocks.specs.Names.{blocks_of}

-- A word is that of the heap lock, of the generation, of one of the three counters, of the allocations of a worker, of a page, of
-- a set of spans, of the number of blocks drawn of a part, of an entry of a set's spine, or of a cell of a block of a part.
pub data Name : Type 0 where
  LockWord : Name
  GenerationWord : Name
  CounterWord : ℕ → Name
  EventWord : ℕ → Name
  PageWord : ℕ → Name
  SetWord : ℕ → Name
  DrawnWord : ℕ → Name
  EntryWord : ℕ → ℕ → Name
  CellWord : ℕ → ℕ → ℕ → Name

-- So many chunks a region has.
abbrev pub chunks_of : ℕ → ℕ
chunks_of R = R / 512

-- A name is of the region where its counter, worker, page, set, part, entry, block and cell are: 3 counters, 70 workers, R pages, 544 sets,
-- each with an entry for each chunk, and 2 parts, each with its blocks of 512 cells.
abbrev pub IsName : ℕ → Name → Type 0
IsName R LockWord = Unit {0}
IsName R GenerationWord = Unit {0}
IsName R (CounterWord k) = k < 3
IsName R (EventWord n) = n < 70
IsName R (PageWord p) = p < R
IsName R (SetWord s) = s < 544
IsName R (DrawnWord p) = p < 2
IsName R (EntryWord s e) = (s < 544) × (e < chunks_of R)
IsName R (CellWord p b i) = (p < 2) × (b < blocks_of (chunks_of R)) × (i < 512)

-- The first word of a cell.
abbrev pub first_cell : ℕ → ℕ
first_cell R = chunks_of R * 544 + (R + 621)

-- The kinds stand one behind another in this order; the spines in the order of their sets, the blocks in that of their numbers, those of part 0
-- before those of part 1.
abbrev pub place : ℕ → Name → ℕ
place R LockWord = 0
place R GenerationWord = 1
place R (CounterWord k) = k + 2
place R (EventWord n) = n + 5
place R (PageWord p) = p + 75
place R (SetWord s) = s + (R + 75)
place R (DrawnWord p) = p + (R + 619)
place R (EntryWord s e) = (e + chunks_of R * s) + (R + 621)
place R (CellWord p b i) = (i + 512 * (b + blocks_of (chunks_of R) * p)) + first_cell R

-- So many words there are.
abbrev pub word_count : ℕ → ℕ
word_count R = first_cell R + blocks_of (chunks_of R) * 1024

-- The names of the entry and of the cell that stand so many words behind the first of their kind.
abbrev pub entry_at : ℕ → ℕ → Name
entry_at R w = EntryWord (w / chunks_of R) (w % chunks_of R)

abbrev pub cell_at : ℕ → ℕ → Name
cell_at R w = CellWord (w / 512 / blocks_of (chunks_of R)) (w / 512 % blocks_of (chunks_of R)) (w % 512)

-- The name of the word at a place: the last kind that begins there or before has it.
abbrev pub name_at : ℕ → ℕ → Name
name_at R w =
    cond (nat_lt w 1) LockWord
    (cond (nat_lt w 2) GenerationWord
    (cond (nat_lt w 5) (CounterWord (w - 2))
    (cond (nat_lt w 75) (EventWord (w - 5))
    (cond (nat_lt w (R + 75)) (PageWord (w - 75))
    (cond (nat_lt w (R + 619)) (SetWord (w - (R + 75)))
    (cond (nat_lt w (R + 621)) (DrawnWord (w - (R + 619)))
    (cond (nat_lt w (first_cell R)) (entry_at R (w - (R + 621)))
    (cell_at R (w - first_cell R)))))))))

-- A set's word has the tail in the low 32 bits and the head in the high ones.
abbrev pub head_tail : ℕ → ℕ → ℕ
head_tail head tail = tail + 4294967296 * head

-- The head of a set's word.
abbrev pub head_of : ℕ → ℕ
head_of word = word / 4294967296

-- The tail of a set's word.
abbrev pub tail_of : ℕ → ℕ
tail_of word = word % 4294967296
