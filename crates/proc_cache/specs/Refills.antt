-- What a refill of a cache did, by its answer and by the log of the call. A log has its newest entry first.
use Rattle.std.specs.Prelude.{◌≡◌, ℕ, ◌/◌, List, [], ◌∷◌, Some, None, Result, Ok, Err}
use Rattle.size_classes.specs.Classes.{pages_of}
use Rattle.span_state.specs.declared.body.Body.{Body}
use Rattle.worker_log.specs.declared.Entry.{Entry}
use Rattle.worker_log.specs.Logs.{refusals}
use Rattle.span_laws.specs.declared.answers.Refused.{Refused}
use Rattle.span_laws.specs.declared.answers.Refused.TheVariants.{NoRun, NoMemory as WantsMemory}
use Rattle.span_laws.specs.BodyAsks.{HasRoom}
use Rattle.span_laws.specs.Views.{span_of}
use Rattle.span_set.specs.Blocks.{HasNoOwnBlock}
use Rattle.span_set.specs.declared.hand.Hand.{Hand}
use Rattle.span_set.specs.Fits.{FitsSets, no_page}
use Rattle.proc_cache.specs.declared.refills.CacheFrom.{CacheFrom}
use Rattle.proc_cache.specs.Cache.{Cache, page_in, slot_at, with_slot}
use Rattle.proc_cache.specs.Leaves.{Leaves, Sums}
use Rattle.proc_cache.specs.RefillLogs.{bytes_of, HasLeft, taken_for, HasSpent, HasFilled, HasMissed}
use Rattle.proc_cache.specs.Findings.{WasNoRun}
use Rattle.proc_cache.specs.Stops.{StopsFilling}

-- a span with a free index is cached in the slot of class k; or there is none, as the line says, and the worker has no block; or memory
-- ran out, before a run was taken, cut or missed. The slot is empty after each refusal, and the others are as they were. Each span of which a sweep kept some went to the set that it fits,
-- but for the one that is cached
abbrev pub RefillsCache : (pages distance : ℕ) → ℕ → Cache → Cache → Hand → Hand → Result CacheFrom Refused → Type 0
RefillsCache pages distance k c d old new (Ok from) = (b : Body) × (d ≡ with_slot k (Some (span_of b)) c) × (slot_at d k ≡ Some (span_of b)) × HasRoom b
    × ((said : List Entry) × Leaves said old new × Sums (bytes_of k) (taken_for from) 0 0 said × HasFilled old pages distance k (slot_at c k) b from said
    × FitsSets old.worker.view.generation (page_in (slot_at d k)) said old.worker new.worker)
RefillsCache pages distance k c d old new (Err (NoRun line)) = (d ≡ with_slot k None c) × WasNoRun old (pages_of (k / 2)) line
    × ((said : List Entry) × Leaves said old new × Sums 0 0 1 0 said × (refusals said ≡ record { number = line; pages = pages_of (k / 2); class = k } ∷ [])
    × HasMissed old pages distance k (slot_at c k) line said × FitsSets old.worker.view.generation no_page said old.worker new.worker × HasNoOwnBlock new.worker)
RefillsCache pages distance k c d old new (Err WantsMemory) = (d ≡ with_slot k None c)
    × ((said : List Entry) × Leaves said old new × Sums 0 0 0 0 said × StopsFilling old.worker.caching old.worker.view pages distance k (slot_at c k) said
    × FitsSets old.worker.view.generation no_page said old.worker new.worker)

-- the full span of class k left, where there was one
abbrev pub LeavesFull : ℕ → Cache → Cache → Hand → Hand → Type 0
LeavesFull k c d old new = (d ≡ with_slot k None c) × (new.notes ≡ old.notes) × ((said : List Entry) × Leaves said old new × HasLeft old.worker.view.generation k (slot_at c k) said)
    × (new.worker.view.own.spans ≡ old.worker.view.own.spans)

-- the body is cached in the slot of its class
abbrev pub KeepsSpan : (k bytes : ℕ) → Body → Cache → Cache → Hand → Hand → Type 0
KeepsSpan k bytes b c d old new = (d ≡ with_slot k (Some (span_of b)) c) × (slot_at d k ≡ Some (span_of b)) × ((said : List Entry) × Leaves said old new × HasSpent bytes said)
    × (new.worker.view.own.spans ≡ old.worker.view.own.spans)
