-- What the search for a span for a cache did, by its answer and by the log of the call.
use Rattle.std.specs.Prelude.{◌≡◌, ℕ, ◌/◌, false, List, [], ◌∷◌, length, None, Result, Ok, Err}
use Rattle.page_bitmap.specs.declared.line.Line.{Line}
use Rattle.size_classes.specs.Classes.{pages_of}
use Rattle.span_state.specs.declared.body.Body.{Body}
use Rattle.worker_log.specs.declared.Entry.{Entry}
use Rattle.worker_log.specs.Logs.{refusals}
use Rattle.worker_log.specs.SetNumbers.{swept_set}
use Rattle.worker_log.specs.Entries.{is_pop_of, many}
use Rattle.span_laws.specs.declared.answers.Refused.{Refused}
use Rattle.span_laws.specs.declared.answers.Refused.TheVariants.{NoRun, NoMemory as WantsMemory}
use Rattle.span_laws.specs.declared.view.Part.{Part}
use Rattle.span_laws.specs.TakeAnswers.{NoRunFree}
use Rattle.sweep_laws.specs.Lists.{has}
use Rattle.span_laws.specs.BodyAsks.{HasRoom}
use Rattle.span_laws.specs.Asks.{HasBody}
use Rattle.span_set.specs.Blocks.{HasNoOwnBlock}
use Rattle.span_set.specs.declared.hand.Hand.{Hand}
use Rattle.central_lists.specs.declared.answers.Look.{Look}
use Rattle.central_lists.specs.Looks.{Then}
use Rattle.sweeper.specs.NewSpans.{MissedAtLast}
use Rattle.proc_cache.specs.declared.refills.CacheFrom.{CacheFrom}
use Rattle.proc_cache.specs.Leaves.{Holds, Sums}
use Rattle.proc_cache.specs.RefillLogs.{bytes_of, HasPaidFor, LookedFor, ComesFrom, taken_for}
use Rattle.proc_cache.specs.Stops.{StopsFinding, StopsTaking}

-- behind some legal journal of that length no run of so many pages is free
abbrev pub WasNoRun : Hand → ℕ → ℕ → Type 0
WasNoRun old n line = (past : List Line) × (length past ≡ line) × NoRunFree n old.worker past

-- a body for the cache of class k: it has a free index; the worker has this body, of which it had nothing before, and has not popped the span from
-- a swept full set
pub record IsFor (k : ℕ) (b : Body) (old new : Hand) : Type 0 where
  pub class : b.class ≡ k
  pub room : HasRoom b
  pub lent : HasBody new.worker.view.own b
  pub before : has b.page old.worker.view.own.cached ≡ false
  pub unpopped : many (is_pop_of (swept_set old.worker.view.generation k 1) b.page) new.worker.view.own.log ≡ 0

-- a span comes from the sets, or is made; or it is refused, and where no run is free the worker has no block
abbrev pub Comes : ℕ → Hand → Hand → Result (Body × CacheFrom) Refused → Type 0
Comes k old new (Ok found) = IsFor k found.0 old new × ((said : List Entry) × Holds (found.0.page ∷ []) said old new × Sums 0 (taken_for found.1) 0 0 said × ComesFrom old k found.0 found.1 said)
Comes k old new (Err (NoRun line)) = WasNoRun old (pages_of (k / 2)) line × ((said : List Entry) × Holds [] said old new × Sums 0 0 1 0 said
    × (refusals said ≡ record { number = line; pages = pages_of (k / 2); class = k } ∷ [])
    × ((look : Look) × ((tried : ℕ) × Then (LookedFor old.worker.view.generation k look tried) (MissedAtLast old (pages_of (k / 2)) k line) said)) × HasNoOwnBlock new.worker)
Comes k old new (Err WantsMemory) = (said : List Entry) × Holds [] said old new × Sums 0 0 0 0 said × StopsTaking old.worker.caching old.worker.view k said

-- it is paid for before
abbrev pub FindsSpan : (pages distance : ℕ) → ℕ → Hand → Hand → Result (Body × CacheFrom) Refused → Type 0
FindsSpan pages distance k old new (Ok found) = IsFor k found.0 old new × ((said : List Entry) × Holds (found.0.page ∷ []) said old new × Sums 0 (taken_for found.1) 0 0 said
    × Then (HasPaidFor old.worker.view.generation pages distance (bytes_of k) 0) (ComesFrom old k found.0 found.1) said)
FindsSpan pages distance k old new (Err (NoRun line)) = WasNoRun old (pages_of (k / 2)) line × ((said : List Entry) × Holds [] said old new × Sums 0 0 1 0 said
    × (refusals said ≡ record { number = line; pages = pages_of (k / 2); class = k } ∷ [])
    × Then (HasPaidFor old.worker.view.generation pages distance (bytes_of k) 0)
    (λ rest. (look : Look) × ((tried : ℕ) × Then (LookedFor old.worker.view.generation k look tried) (MissedAtLast old (pages_of (k / 2)) k line) rest)) said × HasNoOwnBlock new.worker)
FindsSpan pages distance k old new (Err WantsMemory) = (said : List Entry) × Holds [] said old new × Sums 0 0 0 0 said × StopsFinding old.worker.caching old.worker.view pages distance k said

-- the worker holds just one page
pub record IsHolding (h : Part) (page : ℕ) : Type 0 where
  pub sweeping : h.sweeping ≡ []
  pub held : h.held ≡ page ∷ []
  pub popped : h.popped ≡ []
  pub claimed : h.claimed ≡ None
