-- What a mark end has emptied so far.
use Rattle.std.specs.Prelude.{◌≡◌, ◌≢◌, ◌⊎◌, ℕ, suc, ◌+◌, ◌*◌, ◌/◌, ◌%◌, ◌<◌, ◌≤◌, true, false, List, length, slice_index, Some, None}
use Rattle.sweep_laws.specs.Reading.{is_swept_set, set_of}
use Rattle.sweep_laws.specs.State.{CoreState}
use Rattle.block_laws.specs.Blocked.{BlockState, swept_part}
use Rattle.table_words.specs.Names.{Name, IsName, chunks_of, place, head_tail, word_count, CounterWord, EventWord, SetWord, DrawnWord, EntryWord, CellWord}
use Rattle.span_table.specs.declared.view.Emptying.{Emptying}

-- nothing yet, and the tail of the next set is not known
abbrev pub no_emptying : Emptying
no_emptying = record { sets = 0; cells = 0; block = 0; entries = 0; tail = None; counters = 0; undrawn = false }

-- The words that a mark end empties: the counters, the number of blocks drawn of the unswept sets' part, and heads, tails, spines and cells of the
-- unswept sets. The unswept sets are every second one: the number of a set, halved, says which of them it is.
abbrev pub IsUnswept : ℕ → ℕ → Type 0
IsUnswept generation j = (j < 544) × (is_swept_set generation j ≡ false)

-- the names of the words that stay
abbrev pub Stays : ℕ → Name → Type 0
Stays generation (CounterWord k) = ⊥
Stays generation (EventWord n) = Unit {0}
Stays generation (SetWord j) = is_swept_set generation j ≡ true
Stays generation (DrawnWord p) = p ≡ swept_part generation
Stays generation (EntryWord j n) = is_swept_set generation j ≡ true
Stays generation (CellWord p x k) = p ≡ swept_part generation
Stays generation k = Unit {0}

-- a cell of a set is emptied already: its set is, or it is among the first cells of the next one
abbrev pub IsEmptiedCell : Emptying → ℕ → ℕ → Type 0
IsEmptiedCell e j i = (j / 2 < e.sets) ⊎ ((j / 2 ≡ e.sets) × (i < e.cells))

-- an entry of a spine is, or it waits
abbrev pub IsEmptiedEntry : Emptying → ℕ → ℕ → Type 0
IsEmptiedEntry e j n = (j / 2 < e.sets) ⊎ ((j / 2 ≡ e.sets) × (n < e.entries))

abbrev pub WaitsEntry : Emptying → ℕ → ℕ → Type 0
WaitsEntry e j n = (e.sets < j / 2) ⊎ ((j / 2 ≡ e.sets) × (e.entries ≤ n))

-- The words, while the core state has not seen the mark end yet: what is emptied is 0, each other word is what `value` says, and a cell of the
-- blocks that are to be emptied is 0 or what it was.
pub record Emptied (R : ℕ) (value : Name → ℕ) (c : CoreState) (b : BlockState) (e : Emptying) (ws : List ℕ) : Type 0 where
  pub size : length ws ≡ word_count R
  pub stays : (k : Name) → IsName R k → Stays c.generation k → slice_index ws (place R k) ≡ value k
  pub cells : (p x k : ℕ) → IsName R (CellWord p x k) → p ≢ swept_part c.generation → (slice_index ws (place R (CellWord p x k)) ≡ 0) ⊎ (slice_index ws (place R (CellWord p x k)) ≡ b.cell p x k)
  pub emptied : (j i x : ℕ) → IsUnswept c.generation j → i < R → IsEmptiedCell e j i → b.entry j (i / 512) ≡ suc x → slice_index ws (place R (CellWord (j % 2) x (i % 512))) ≡ 0
  pub block : (x : ℕ) → e.block ≡ suc x → (j : ℕ) → IsUnswept c.generation j → j / 2 ≡ e.sets → b.entry j (e.cells / 512) ≡ suc x
  pub gone : (j n : ℕ) → IsUnswept c.generation j → n < chunks_of R → IsEmptiedEntry e j n → slice_index ws (place R (EntryWord j n)) ≡ 0
  pub left : (j n : ℕ) → IsUnswept c.generation j → n < chunks_of R → WaitsEntry e j n → slice_index ws (place R (EntryWord j n)) ≡ b.entry j n
  pub sets : (j : ℕ) → IsUnswept c.generation j → j / 2 < e.sets → slice_index ws (place R (SetWord j)) ≡ 0
  pub waits : (j : ℕ) → IsUnswept c.generation j → e.sets ≤ j / 2 → slice_index ws (place R (SetWord j)) ≡ head_tail (set_of c j).head (set_of c j).tail
  pub tail : (t : ℕ) → e.tail ≡ Some t → (j : ℕ) → IsUnswept c.generation j → j / 2 ≡ e.sets → (set_of c j).tail ≡ t
  pub counters : (k : ℕ) → k < e.counters → k < 3 → slice_index ws (k + 2) ≡ 0
  pub undrawn : e.undrawn ≡ true → (p : ℕ) → p < 2 → p ≢ swept_part c.generation → slice_index ws (place R (DrawnWord p)) ≡ 0
