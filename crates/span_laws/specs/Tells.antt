-- What a part tells of the pages and sets, and that it is so.
use Rattle.std.specs.Prelude.{◌≡◌, ℕ, ◌+◌, ◌<◌, ◌≤◌, ◌==◌, ◌&&◌, true, false, List, length, slice_index, slice_index_or}
use Rattle.size_classes.specs.declared.TheConstants.{MAX_PAGES}
use Rattle.sweep_laws.specs.Counts.{times}
use Rattle.sweep_laws.specs.Lists.{has}
use Rattle.sweep_laws.specs.Reading.{cell_of, class_of_set, is_swept_set, life_in, no_set}
use Rattle.sweep_laws.specs.State.{LifeState, SetState}
use Rattle.span_laws.specs.declared.view.Part.{Part}
use Rattle.swept_set_laws.specs.Entered.{IsSettled}
use Rattle.span_laws.specs.Logs.{is_look, is_placing_at}
use Rattle.worker_log.specs.Entries.{many, is_pop, is_pop_of, is_seen_empty}
use Rattle.span_laws.specs.Views.{has_cell}

-- each cell below the tail of a set is filled, by a page of a region of at most 2097152 pages
abbrev pub IsFilled : SetState → Type 0
IsFilled s = (i : ℕ) → i < s.tail → (0 < cell_of s i) × (cell_of s i ≤ MAX_PAGES)

-- a placed object is allocated in a swept span
abbrev pub IsPlaced : ℕ → List ℕ → List LifeState → ℕ → ℕ → Type 0
IsPlaced g words lives p i = (p < length words) × IsSettled g (slice_index words p) × (0 < times i (life_in p lives).allocated)

-- the cached pages that are told as fresh are those with the word G+3; the log's placings are of allocated objects of swept spans; a
-- page that was popped from an unswept set and waits still is of its class; an unswept set that was seen empty is empty; a cell that was read as filled still names its page; no set has an earlier head or tail than
-- was seen, or an earlier head than the entries that the worker popped from it; and the unswept sets are filled
pub record Tells (g : ℕ) (words : List ℕ) (lives : List LifeState) (sets : List SetState) (h : Part) : Type 0 where
  pub fresh : (p : ℕ) → has p h.fresh ≡ (has p h.cached && (slice_index words p == g + 3))
  pub placed : (p i : ℕ) → 0 < many (is_placing_at p i) h.log → IsPlaced g words lives p i
  pub waits : (k p : ℕ) → is_swept_set g k ≡ false → 0 < many (is_pop_of k p) h.log → slice_index words p + 2 ≡ g → (life_in p lives).class ≡ class_of_set k
  pub emptied : (k : ℕ) → is_swept_set g k ≡ false → 0 < many (is_seen_empty k) h.log → (slice_index_or sets k no_set).head ≡ (slice_index_or sets k no_set).tail
  pub read : (k i p : ℕ) → has_cell k i p h.read ≡ true → cell_of (slice_index_or sets k no_set) i ≡ p + 1
  pub filled : (k : ℕ) → is_swept_set g k ≡ false → IsFilled (slice_index_or sets k no_set)
  pub grown : (k s t : ℕ) → 0 < many (is_look k s t) h.log → (s ≤ (slice_index_or sets k no_set).head) × (t ≤ (slice_index_or sets k no_set).tail)
  pub passed : (k : ℕ) → many (is_pop k) h.log ≤ (slice_index_or sets k no_set).head
