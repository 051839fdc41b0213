-- The ownership rule in the form that is kept move by move: what stands of each page, over plain lists.
use Rattle.std.specs.Prelude.{◌≡◌, ◌⊎◌, ℕ, ◌+◌, ◌<◌, ◌≤◌, List, length, slice_index, Option}
use Rattle.std.specs.List.{AllByRecursion}
use Rattle.sweep_laws.specs.Named.{sweepers, holders, cachers, poppers, swept_by, queued, unswept, unswept_own}
use Rattle.sweep_laws.specs.OwnedLives.{IsGeneration, LivesFit, PulledApart, ObjectsFit}
use Rattle.sweep_laws.specs.OwnedSets.{SetsFit}
use Rattle.sweep_laws.specs.State.{LifeState, SetState, HandState, CoreState}

-- the word of a page, and how often it is named: by the hands that sweep, hold or have cached it, by the
-- unpopped cells of swept sets, by those of the unswept sets of its class with the popped lists (own), by those of all
-- unswept sets with the popped lists (waiting), and by the swept lists (listed)
pub record Tally : Type 0 where
  pub word : ℕ
  pub sweeping : ℕ
  pub held : ℕ
  pub cached : ℕ
  pub queued : ℕ
  pub own : ℕ
  pub waiting : ℕ
  pub listed : ℕ

-- the tally of a page
abbrev pub tally : ℕ → List ℕ → List LifeState → List SetState → List HandState → ℕ → Tally
tally g words lives sets hands p = record {
  word = slice_index words p;
  sweeping = sweepers p hands;
  held = holders p hands;
  cached = cachers p hands;
  queued = queued g p sets;
  own = unswept_own g p lives sets + poppers p hands;
  waiting = unswept g p sets + poppers p hands;
  listed = swept_by p hands;
}

-- who has a page, by its word
pub data Standing (g : ℕ) (t : Tally) : Type 0 where
  is_free : t.word ≡ 0 → t.sweeping + t.held + t.cached + t.queued ≡ 0 → Standing g t
  is_unswept : t.word + 2 ≡ g → t.sweeping + t.held + t.cached + t.queued ≡ 0 → t.own ≡ 1 → Standing g t
  is_sweeping : t.word + 1 ≡ g → t.sweeping ≡ 1 → t.held + t.cached + t.queued ≡ 0 → Standing g t
  is_swept : t.word ≡ g → t.sweeping + t.cached ≡ 0 → t.held + t.queued ≡ 1 → Standing g t
  is_stale : t.word ≡ g + 1 → t.cached ≡ 1 → t.sweeping + t.held + t.queued ≡ 0 → Standing g t
  is_cached : t.word ≡ g + 3 → t.cached ≡ 1 → t.sweeping + t.held + t.queued ≡ 0 → Standing g t

-- what is kept of a page
pub record Page (g : ℕ) (t : Tally) : Type 0 where
  pub standing : Standing g t
  pub waiting : t.waiting ≤ 1
  pub listed : t.listed ≤ 1
  pub listed_word : 0 < t.listed → (t.word ≡ 0) ⊎ (t.word ≡ g) ⊎ (t.word ≡ g + 3)

-- the rule over plain lists
pub record Kept (g : ℕ) (words : List ℕ) (owners : List (Option ℕ)) (lives : List LifeState) (sets : List SetState) (hands : List HandState) : Type 0 where
  pub generation : IsGeneration g
  pub lives_fit : LivesFit g words owners lives
  pub pulled : PulledApart lives hands
  pub page : (p : ℕ) → p < length words → Page g (tally g words lives sets hands p)
  pub sets_fit : SetsFit g (length words) lives sets hands
  pub objects : AllByRecursion ObjectsFit lives

-- the rule of a state
abbrev pub CoreKept : CoreState → Type 0
CoreKept c = Kept c.generation c.words c.owners c.lives c.sets c.hands
