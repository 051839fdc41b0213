-- What a worker did while it was out, and what the driver has when it took all of them in.
use Rattle.std.specs.Prelude.{◌≡◌, ◌≢◌, ℕ, ◌<◌, ◌≤◌, Bool, List, [], ◌++◌, length, slice_index_or}
use Rattle.trace_reader.specs.declared.trace.Event.{Event}
use Rattle.cycle_history.specs.declared.Answer.{Answer}
use Rattle.worker_log.specs.declared.Entry.{Entry}
use Rattle.worker_log.specs.Logs.{placings, refusals}
use Rattle.span_laws.specs.TakeAnswers.{cycle_at}
use Rattle.span_laws.specs.Asks.{IsIdle}
use Rattle.span_laws.specs.Calls.{notes_of}
use Rattle.span_laws.specs.Views.{Seen, acts}
use Rattle.span_laws.specs.declared.view.Part.{Part}
use Rattle.span_set.specs.declared.hand.Hand.{Hand}
use Rattle.profile_cycle.specs.Sampling.{countdown}
use Rattle.proc_cache.specs.Cache.{Cache}
use Rattle.proc_cache.specs.Serves.{IsUsedCache, Serves}
use Rattle.heap_run.specs.Parts.{IsSameRun, part_at}
use Rattle.heap_run.specs.Riding.{asked_at, given_at}
use Rattle.heap_run.specs.Served.{LogTells}
use Rattle.heap_run.specs.Swept.{AreCollected}

-- A worker's own calls added these entries to its log, which have the property P, and their notes; it is idle then.
pub record HasActed (P : List Entry → Type 0) (old new : Hand) : Type 0 where
  pub said : List Entry
  pub did : P said
  pub log : new.worker.view.own.log ≡ said ++ old.worker.view.own.log
  pub away : new.worker.away ≡ old.worker.away
  pub table : new.worker.table ≡ old.worker.table
  pub number : new.worker.number ≡ old.worker.number
  pub caching : new.worker.caching ≡ old.worker.caching
  pub view : new.worker.view ≡ acts old.worker.view new.worker.view.own
  pub idle : IsIdle new.worker.view.own
  pub notes : new.notes.items ≡ old.notes.items ++ notes_of old.worker.view.generation said

-- The entries answer events: events and answers have the newest first.
abbrev pub SaysAnswers : List Event → List Answer → List Entry → Type 0
SaysAnswers events answers said = LogTells events answers said

-- No event is answered by the entries.
abbrev pub SaysNone : List Entry → Type 0
SaysNone said = (placings said ≡ []) × (refusals said ≡ [])

-- A processor's cache is as its worker's part has it, and each span that was cached in this cycle has an object.
pub record IsCaching (g : ℕ) (h : Part) (c : Cache) : Type 0 where
  pub serves : Serves g h c
  pub used : IsUsedCache h

-- By the driver's hand: worker i was out, its log got these entries, which have the property P, and the driver their notes.
pub record TookTurn (i : ℕ) (P : List Entry → Type 0) (old new : Hand) : Type 0 where
  pub said : List Entry
  pub did : P said
  pub log : (part_at new.worker i).log ≡ said ++ (part_at old.worker i).log
  pub number : new.worker.number ≡ old.worker.number
  pub same : IsSameRun old.worker new.worker
  pub idle : IsIdle (part_at new.worker i)
  pub others : (j : ℕ) → j ≢ i → part_at new.worker j ≡ part_at old.worker j
  pub notes : new.notes.items ≡ old.notes.items ++ notes_of old.worker.view.generation said

-- A worker that is no processor's has nothing cached.
abbrev pub HasNoCache : Part → Type 0
HasNoCache h = h.cached ≡ []

-- No cache.
abbrev pub no_cache : Cache
no_cache = record { number = 0; flushed = 0; slots = []; countdown = countdown 0 0 0 [] }

-- The driver has taken in all workers that went out since the start: nothing but the workers' parts changed, all workers are idle, and the
-- caches of the processors are as their workers' parts have them; no other worker has anything cached.
pub record IsDriving (start : Seen) (procs : List Cache) (d : Hand) : Type 0 where
  pub number : d.worker.number ≡ 69
  pub same : IsSameRun start d.worker
  pub idle : (i : ℕ) → IsIdle (part_at d.worker i)
  pub numbers : (i : ℕ) → i < length procs → (slice_index_or procs i no_cache).number ≡ i
  pub caching : (i : ℕ) → i < length procs → IsCaching start.view.generation (part_at d.worker i) (slice_index_or procs i no_cache)
  pub uncached : (i : ℕ) → length procs ≤ i → HasNoCache (part_at d.worker i)

-- The driver has the notes of all sweeps that the logs tell.
abbrev pub IsCollecting : Hand → Type 0
IsCollecting d = AreCollected (cycle_at d.worker.view.generation) (λ w. (part_at d.worker w).log) d.notes.items

-- What the logs told of answers they tell still.
abbrev pub KeepsAnswers : Seen → Seen → Type 0
KeepsAnswers old new = (w : ℕ) (events : List Event) (answers : List Answer) → SaysAnswers events answers (part_at old w).log → SaysAnswers events answers (part_at new w).log

-- The logs tell of the heap's answers to what each processor asked for its events, and of no others; all are in the order of time.
abbrev pub HaveAnswered : Bool → List (List Event) → List (List Answer) → Seen → Type 0
HaveAnswered riding queues given d = (w : ℕ) → SaysAnswers (asked_at riding queues given w) (given_at riding queues given w) (part_at d w).log

-- The first k processors have answered their events, and nobody else has answered any.
pub record HaveAnsweredTo (riding : Bool) (queues : List (List Event)) (k : ℕ) (given : List (List Answer)) (d : Seen) : Type 0 where
  pub size : length given ≡ k
  pub answered : (w : ℕ) → w < k → SaysAnswers (asked_at riding queues given w) (given_at riding queues given w) (part_at d w).log
  pub others : (w : ℕ) → k ≤ w → SaysNone (part_at d w).log
