-- What the words of spines and of blocks say of the cells of sets, and whose each block is.
use Rattle.std.specs.Prelude.{◌≡◌, ℕ, zero, suc, ◌*◌, ◌/◌, ◌%◌, ◌<◌, ◌≤◌, Bool, true, false, List, slice_index_or}
use Rattle.set_blocks.specs.Names.{blocks_of}
use Rattle.sweep_laws.specs.Reading.{cell_of, no_set}
use Rattle.sweep_laws.specs.State.{SetState}

-- Whose a block of a part is: nobody's, the spare of the worker of a number, or that of an entry of a set's spine.
pub data Use : Type 0 where
  Free : Use
  Spare : ℕ → Use
  InSpine : ℕ → ℕ → Use

abbrev pub is_in_spine : Use → Bool
is_in_spine Free = false
is_in_spine (Spare n) = false
is_in_spine (InSpine s e) = true

-- How many blocks of each part are drawn, the entries of each set's spine (0, or 1 plus the number of a block of the set's part), and the cells of
-- the blocks of each part; whose each block is, and the spare of each worker, of the part of the swept sets (0, or 1 plus its number).
pub record BlockState : Type 0 where
  pub drawn : ℕ → ℕ
  pub entry : ℕ → ℕ → ℕ
  pub cell : ℕ → ℕ → ℕ → ℕ
  pub uses : ℕ → ℕ → Use
  pub spare : ℕ → ℕ

-- The part of the sets that are swept at a generation.
abbrev pub swept_part : ℕ → ℕ
swept_part g = (g / 2) % 2

-- The cell of an index in the block that an entry names: 0 where it names none.
abbrev pub cell_by : (ℕ → ℕ → ℕ) → ℕ → ℕ → ℕ
cell_by cells zero k = 0
cell_by cells (suc x) k = cells x k

-- The cell of a set at an index, as spine and block have it.
abbrev pub cell_shown : BlockState → ℕ → ℕ → ℕ
cell_shown b s i = cell_by (b.cell (s % 2)) (b.entry s (i / 512)) (i % 512)

-- The set of a number.
abbrev pub set_in : List SetState → ℕ → SetState
set_in sets s = slice_index_or sets s no_set

-- A block that was drawn is a worker's spare, or has its entry.
abbrev pub IsBacked : BlockState → ℕ → Use → Type 0
IsBacked b x Free = ⊥
IsBacked b x (Spare n) = (n < 70) × (b.spare n ≡ suc x)
IsBacked b x (InSpine s e) = Unit {0}

-- The rule of spines and blocks, for the sets of a region of so many chunks at a generation.
pub record Blocked (chunks g : ℕ) (sets : List SetState) (b : BlockState) : Type 0 where
  -- the cells of the sets are those of the blocks
  pub shows : (s i : ℕ) → s < 544 → i < 512 * chunks → cell_of (set_in sets s) i ≡ cell_shown b s i
  -- an entry that names a block has it alone; the block is drawn, and an index below the tail uses it
  pub named : (s e x : ℕ) → s < 544 → e < chunks → b.entry s e ≡ suc x → (b.uses (s % 2) x ≡ InSpine s e) × (x < b.drawn (s % 2)) × (512 * e < (set_in sets s).tail)
  pub used : (p x s e : ℕ) → b.uses p x ≡ InSpine s e → (s < 544) × (e < chunks) × (s % 2 ≡ p) × (b.entry s e ≡ suc x)
  -- a block that no entry names holds only 0
  pub blank : (p x k : ℕ) → is_in_spine (b.uses p x) ≡ false → b.cell p x k ≡ 0
  -- of the swept sets' part, each block that is drawn is a spare or has its entry, and a spare is one worker's
  pub backed : (x : ℕ) → x < b.drawn (swept_part g) → IsBacked b x (b.uses (swept_part g) x)
  pub spare : (n x : ℕ) → b.spare n ≡ suc x → (x < b.drawn (swept_part g)) × (b.uses (swept_part g) x ≡ Spare n)
  -- no more blocks are drawn than there are
  pub few : (p : ℕ) → p < 2 → b.drawn p ≤ blocks_of chunks
