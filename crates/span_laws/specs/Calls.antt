-- What the log of a call of several steps tells, and what such a call leaves as it is. A log has its newest entry first.
use Rattle.std.specs.Prelude.{◌≡◌, ℕ, ◌<◌, ◌==◌, Bool, true, false, List, [], ◌∷◌, ◌++◌}
use Rattle.span_state.specs.declared.sweep.SweepNote.{SweepNote}
use Rattle.sweep_laws.specs.Counts.{times, total}
use Rattle.sweep_laws.specs.Named.{only}
use Rattle.worker_log.specs.declared.Entry.{Entry}
use Rattle.worker_log.specs.declared.Entry.TheVariants.{Missed, Gave, Allocated, Added, Swept}
use Rattle.span_laws.specs.TakeAnswers.{cycle_at}
use Rattle.span_laws.specs.Asks.{mine}
use Rattle.span_laws.specs.Views.{Seen, acts, span_at}

-- the entry is a refusal
abbrev pub is_missing : Entry → Bool
is_missing (Missed number line) = true
is_missing _ = false

-- the entry gives a span back
abbrev pub is_giving : Entry → Bool
is_giving (Gave page pages) = true
is_giving _ = false

-- the entry places an object
abbrev pub is_placing : Entry → Bool
is_placing (Allocated a) = true
is_placing _ = false

-- the number that an entry adds to a word
abbrev pub number_added : ℕ → Entry → ℕ
number_added word (Added w number) = only (w == word) number
number_added word _ = 0

-- the sum of the numbers that a log adds to a word
abbrev pub added : ℕ → List Entry → ℕ
added word log = total (number_added word) log

-- the pages of the span that an entry sweeps
abbrev pub pages_swept : Entry → ℕ
pages_swept (Swept s) = s.pages
pages_swept _ = 0

-- the pages of the spans that a log sweeps
abbrev pub swept_pages : List Entry → ℕ
swept_pages log = total pages_swept log

-- the note of an entry that sweeps, at a generation
abbrev pub note_in : ℕ → Entry → List SweepNote
note_in g (Swept s) = record { cycle = cycle_at g; page = s.page; kept = s.kept; freed = s.freed } ∷ []
note_in g _ = []

-- the notes of a log's sweeps, the oldest first
abbrev pub notes_of : ℕ → List Entry → List SweepNote
notes_of g [] = []
notes_of g (e ∷ log) = notes_of g log ++ note_in g e

-- nothing but the worker's own part changed; of that the spans that it has cached, its claim and its resets are the same, it sweeps what it
-- swept and has popped what it had popped, and of each span that it had its body is the same
pub record Keeps (old new : Seen) : Type 0 where
  pub table : new.table ≡ old.table
  pub number : new.number ≡ old.number
  pub away : new.away ≡ old.away
  pub view : new.view ≡ acts old.view new.view.own
  pub cached : new.view.own.cached ≡ old.view.own.cached
  pub fresh : new.view.own.fresh ≡ old.view.own.fresh
  pub claimed : new.view.own.claimed ≡ old.view.own.claimed
  pub reset : new.view.own.reset ≡ old.view.own.reset
  pub sweeping : (q : ℕ) → times q new.view.own.sweeping ≡ times q old.view.own.sweeping
  pub popped : (q : ℕ) → times q new.view.own.popped ≡ times q old.view.own.popped
  pub bodies : (q : ℕ) → 0 < mine q old.view.own → span_at q new.view.own.spans ≡ span_at q old.view.own.spans
