-- What an allocation of a small object did, by its answer and by the log of the call. A log has its newest entry first.
use Rattle.std.specs.Prelude.{◌≡◌, ◌≢◌, ◌⊎◌, ℕ, ◌/◌, ◌<◌, false, nat_lt, if◌then◌else◌, List, [], ◌∷◌, Option, None, Result, Ok, Err}
use Rattle.size_classes.specs.Classes.{pages_of, slot_of}
use Rattle.span_state.specs.declared.body.Body.{Body}
use Rattle.worker_log.specs.declared.Entry.{Entry}
use Rattle.worker_log.specs.declared.Entry.TheVariants.{Allocated}
use Rattle.worker_log.specs.declared.Placing.{Placing}
use Rattle.worker_log.specs.Logs.{placings, refusals}
use Rattle.span_laws.specs.declared.answers.Refused.{Refused}
use Rattle.span_laws.specs.declared.answers.Refused.TheVariants.{NoRun, NoMemory as WantsMemory}
use Rattle.span_laws.specs.declared.view.Span.{Span}
use Rattle.span_set.specs.Blocks.{HasNoOwnBlock}
use Rattle.span_set.specs.declared.hand.Hand.{Hand}
use Rattle.span_set.specs.Fits.{FitsSets, no_page}
use Rattle.central_lists.specs.Looks.{Then}
use Rattle.proc_cache.specs.declared.refills.CacheFrom.{CacheFrom}
use Rattle.proc_cache.specs.declared.allocs.Placed.{Placed}
use Rattle.proc_cache.specs.Cache.{Cache, address_of, page_in, slot_at}
use Rattle.proc_cache.specs.Flushes.{IsFlush, IsWholeFlush}
use Rattle.proc_cache.specs.Leaves.{Leaves, Sums}
use Rattle.proc_cache.specs.RefillLogs.{HasFilled, HasMissed, bytes_of, taken_for}
use Rattle.proc_cache.specs.Findings.{WasNoRun}
use Rattle.proc_cache.specs.Serves.{is_flushed}
use Rattle.proc_cache.specs.Stops.{StopsFilling}

-- the slot of a class after the flush, where the processor had not flushed in this cycle
abbrev pub flushed_slot : ℕ → Cache → ℕ → Option Span
flushed_slot g c k = if is_flushed g c then slot_at c k else None

-- the slots of the other classes are as they were, but for the flush
abbrev pub KeepsOthers : ℕ → ℕ → Cache → Cache → Type 0
KeepsOthers g k c d = (j : ℕ) → j ≢ k → slot_at d j ≡ flushed_slot g c j

-- one object of class k is placed, at this address, and no request is refused
pub record PlacesOne (k at : ℕ) (said : List Entry) : Type 0 where
  pub placing : Placing
  pub only : placings said ≡ placing ∷ []
  pub class : placing.class ≡ k
  pub address : at ≡ address_of placing.page (slot_of (k / 2)) placing.index
  pub refused : refusals said ≡ []

-- all that is said is that an object is placed
abbrev pub JustPlaces : List Entry → Type 0
JustPlaces said = (a : Placing) × (said ≡ Allocated a ∷ [])

-- the object has a place in the cached span; or the cache was refilled for it
abbrev pub IsPlaced : Hand → (pages distance : ℕ) → ℕ → Cache → List Entry → Type 0
IsPlaced old pages distance k c said = (Sums 0 0 0 1 said × Then (IsWholeFlush c old) JustPlaces said)
    ⊎ ((b : Body) × ((from : CacheFrom) × Sums (bytes_of k) (taken_for from) 0 1 said
    × Then (IsWholeFlush c old) (Then (HasFilled old pages distance k (flushed_slot old.worker.view.generation c k) b from) JustPlaces) said))

-- the cache was flushed up to some class; or it was flushed, and the slot of class k is empty
abbrev pub IsPartly : ℕ → ℕ → Cache → Cache → Type 0
IsPartly g k c d = ((d.flushed ≡ c.flushed) × (is_flushed g c ≡ false) × ((m : ℕ) × (m < 136) × ((j : ℕ) → slot_at d j ≡ (if nat_lt j m then None else slot_at c j))))
    ⊎ ((d.flushed ≡ g) × (slot_at d k ≡ None) × KeepsOthers g k c d)

-- the log of an allocation that memory stopped: in the flush; or behind it in the refill
abbrev pub StopsAllocating : Hand → (pages distance : ℕ) → ℕ → Cache → Cache → List Entry → Type 0
StopsAllocating old pages distance k c d said = ((d.flushed ≡ c.flushed) × (is_flushed old.worker.view.generation c ≡ false) × IsFlush old.worker.view.generation said)
    ⊎ ((d.flushed ≡ old.worker.view.generation)
    × Then (IsWholeFlush c old) (StopsFilling old.worker.caching old.worker.view pages distance k (flushed_slot old.worker.view.generation c k)) said)

-- an object of class k was placed, and its address is that of the one placing of the call; or no run is free, as the line says, and the worker has no
-- block; or memory ran out.
-- Each span of which a sweep kept some went to the set that it fits, but for the one that is cached
abbrev pub AllocatesIn : (pages distance : ℕ) → ℕ → Cache → Cache → Hand → Hand → Result ℕ Refused → Type 0
AllocatesIn pages distance k c d old new (Ok at) = (d.flushed ≡ old.worker.view.generation) × KeepsOthers old.worker.view.generation k c d
    × ((said : List Entry) × Leaves said old new × PlacesOne k at said × IsPlaced old pages distance k c said
    × FitsSets old.worker.view.generation (page_in (slot_at d k)) said old.worker new.worker)
AllocatesIn pages distance k c d old new (Err (NoRun line)) = (d.flushed ≡ old.worker.view.generation) × (slot_at d k ≡ None) × KeepsOthers old.worker.view.generation k c d
    × WasNoRun old (pages_of (k / 2)) line × ((said : List Entry) × Leaves said old new × Sums 0 0 1 0 said × (placings said ≡ [])
    × (refusals said ≡ record { number = line; pages = pages_of (k / 2); class = k } ∷ [])
    × Then (IsWholeFlush c old) (HasMissed old pages distance k (flushed_slot old.worker.view.generation c k) line) said
    × FitsSets old.worker.view.generation no_page said old.worker new.worker × HasNoOwnBlock new.worker)
AllocatesIn pages distance k c d old new (Err WantsMemory) = IsPartly old.worker.view.generation k c d
    × ((said : List Entry) × Leaves said old new × Sums 0 0 0 0 said × StopsAllocating old pages distance k c d said
    × FitsSets old.worker.view.generation no_page said old.worker new.worker)

-- the answer of a call for an object, without whether it is sampled
abbrev pub addr_of : Result Placed Refused → Result ℕ Refused
addr_of (Ok p) = Ok p.addr
addr_of (Err e) = Err e
