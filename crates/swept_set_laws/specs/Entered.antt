-- What the cells and claims of the swept sets name, popped ones included: a rule over plain lists.
use Rattle.std.specs.Prelude.{◌≡◌, ◌⊎◌, ℕ, ◌+◌, ◌<◌, ◌≤◌, Bool, true, false, not, List, [], length, slice_index, slice_index_or, Some}
use Rattle.std.specs.Option.{is_some}
use Rattle.sweep_laws.specs.declared.moves.Claimed.{Claimed}
use Rattle.sweep_laws.specs.Counts.{times}
use Rattle.sweep_laws.specs.Lists.{least_outside}
use Rattle.sweep_laws.specs.Named.{is_class}
use Rattle.sweep_laws.specs.Reading.{cell_of, class_of_set, is_swept_set, life_in}
use Rattle.sweep_laws.specs.OwnedLives.{EachAt}
use Rattle.sweep_laws.specs.State.{LifeState, SetState, HandState, CoreState}
use Rattle.worker_log.specs.declared.Entry.{Entry}
use Rattle.worker_log.specs.SetNumbers.{is_full_set}
use Rattle.worker_log.specs.Entries.{many, is_pop_of}

-- A life has no free index.
abbrev pub is_full_life : LifeState → Bool
is_full_life l = not (is_some (least_outside l.allocated l.count))

-- A word says that the span is swept, cached or not.
abbrev pub IsSettled : ℕ → ℕ → Type 0
IsSettled g w = (w ≡ g) ⊎ (w ≡ g + 3)

-- The log of a worker.
abbrev pub log_of : List (List Entry) → ℕ → List Entry
log_of logs n = slice_index_or logs n []

-- A page that a swept set names begins a swept life of the set's class, with an object at least, and in a full set with no free
-- index.
pub record IsEntry (g pages : ℕ) (words : List ℕ) (lives : List LifeState) (k p : ℕ) : Type 0 where
  pub low : p < pages
  pub class : is_class p (class_of_set k) lives ≡ true
  pub word : IsSettled g (slice_index words p)
  pub used : 0 < length (life_in p lives).allocated
  pub full : is_full_set k ≡ true → is_full_life (life_in p lives) ≡ true

-- One swept set, whose cells and claims below the tail name the pages f: each popped cell is filled, no page is named twice, and the
-- lives that the unpopped cells and claims of a partial set name have a free index.
pub record NamesPages (g pages : ℕ) (words : List ℕ) (lives : List LifeState) (k : ℕ) (s : SetState) (f : ℕ → ℕ) : Type 0 where
  pub cell : (i : ℕ) → i < s.tail → (cell_of s i ≡ 0) ⊎ (cell_of s i ≡ f i + 1)
  pub gone : (i : ℕ) → i < s.head → 0 < cell_of s i
  pub once : (i j : ℕ) → i < s.tail → j < s.tail → f i ≡ f j → i ≡ j
  pub entry : (i : ℕ) → i < s.tail → IsEntry g pages words lives k (f i)
  pub room : is_full_set k ≡ false → (i : ℕ) → s.head ≤ i → i < s.tail → is_full_life (life_in (f i) lives) ≡ false

-- A worker that holds or has cached a page which a popped cell names has that pop in its log, unless the set is a partial one
-- and the life has no free index.
abbrev pub Knows : List LifeState → HandState → List Entry → ℕ → ℕ → Type 0
Knows lives h log k p = 0 < times p h.held + times p h.cached
    → (0 < many (is_pop_of k p) log) ⊎ ((is_full_set k ≡ false) × (is_full_life (life_in p lives) ≡ true))

-- The rule of what swept sets name.
pub record Entered (g pages : ℕ) (words : List ℕ) (lives : List LifeState) (sets : List SetState) (hands : List HandState) (logs : List (List Entry)) (names : ℕ → ℕ → ℕ) : Type 0 where
  pub sets_name : EachAt sets (λ k s. is_swept_set g k ≡ true → NamesPages g pages words lives k s (names k))
  pub claim : EachAt hands (λ n h. (d : Claimed) → h.claimed ≡ Some d → names d.set d.index ≡ d.page)
  pub told : EachAt hands (λ n h. EachAt sets (λ k s. is_swept_set g k ≡ true → (p : ℕ) → 0 < many (is_pop_of k p) (log_of logs n) → (i : ℕ) × (i < s.head) × (names k i ≡ p)))
  pub known : EachAt hands (λ n h. EachAt sets (λ k s. is_swept_set g k ≡ true → (i : ℕ) → i < s.head → Knows lives h (log_of logs n) k (names k i)))

-- The rule of a state of span ownership, with the logs of all workers by number.
abbrev pub EnteredIn : CoreState → List (List Entry) → (ℕ → ℕ → ℕ) → Type 0
EnteredIn c logs names = Entered c.generation (length c.words) c.words c.lives c.sets c.hands logs names
