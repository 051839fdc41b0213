-- What an allocation of a large object did, by its answer and by the log of the call. A log has its newest entry first.
use Rattle.std.specs.Prelude.{◌≡◌, ◌⊎◌, ◌<◌, ℕ, ◌+◌, ◌*◌, List, [], ◌∷◌, Result, Ok, Err}
use Rattle.size_classes.specs.Classes.{region_start}
use Rattle.page_bitmap.specs.declared.line.Line.TheVariants.{Take}
use Rattle.span_state.specs.declared.body.Body.{Body}
use Rattle.worker_log.specs.declared.Entry.{Entry}
use Rattle.worker_log.specs.declared.Entry.TheVariants.{Allocated, Pushed, Read}
use Rattle.worker_log.specs.declared.Placing.{Placing}
use Rattle.worker_log.specs.Logs.{placings, refusals, takings}
use Rattle.worker_log.specs.SetNumbers.{swept_set}
use Rattle.worker_log.specs.Entries.{many}
use Rattle.span_laws.specs.declared.answers.Refused.{Refused}
use Rattle.span_laws.specs.declared.answers.Refused.TheVariants.{NoRun, NoMemory as WantsMemory}
use Rattle.span_laws.specs.declared.said.Said.TheVariants.{Fills, Reads}
use Rattle.span_laws.specs.declared.said.SaidOf.TheVariants.{Places}
use Rattle.span_laws.specs.declared.view.Span.{Span}
use Rattle.span_laws.specs.TakeAnswers.{cycle_at}
use Rattle.span_laws.specs.BodyAsks.{IsEmptyBody}
use Rattle.span_laws.specs.Asks.{HasBody, IsUntouched}
use Rattle.span_laws.specs.Views.{Seen, span_of}
use Rattle.span_laws.specs.OwnSteps.{after_of, after_said}
use Rattle.span_set.specs.Blocks.{HasNoOwnBlock}
use Rattle.span_set.specs.declared.hand.Hand.{Hand}
use Rattle.central_lists.specs.Looks.{Then}
use Rattle.sweeper.specs.Entries.{is_cut_of}
use Rattle.sweeper.specs.NewSpans.{MadeAtLast, MissedAtLast}
use Rattle.proc_cache.specs.Hits.{IsPlacedIn}
use Rattle.proc_cache.specs.Leaves.{Holds, Sums}
use Rattle.proc_cache.specs.RefillLogs.{HasPaidFor, HasSpent}
use Rattle.proc_cache.specs.Findings.{WasNoRun}
use Rattle.proc_cache.specs.Stops.{StopsLarge}

-- a run of n pages was taken for the span in which the object is placed, by this line; or the span was cut out of the worker's block, and no run was taken
abbrev pub IsMadeFor : (n k g : ℕ) → Placing → List Entry → Type 0
IsMadeFor n k g a said = (takings said ≡ record { number = a.number; line = Take (cycle_at g) a.page n k } ∷ []) ⊎ ((takings said ≡ []) × (0 < many (is_cut_of a.page n k) said))

-- one object is placed, at index 0 of a span that was made for it, and no request is refused
pub record PlacesLarge (n k at g : ℕ) (said : List Entry) : Type 0 where
  pub placing : Placing
  pub only : placings said ≡ placing ∷ []
  pub class : placing.class ≡ k
  pub index : placing.index ≡ 0
  pub address : at ≡ region_start + 8192 * placing.page
  pub refused : refusals said ≡ []
  pub made : IsMadeFor n k g placing said

-- the object is placed in the span of the body, which is pushed to the swept full set
abbrev pub HasPut : ℕ → ℕ → Body → List Entry → Type 0
HasPut g k b said = said ≡ Pushed (swept_set g k 1) b.page ∷ Read 1 g ∷ Allocated (record { page = b.page; index = 0; number = b.life; class = k }) ∷ []

-- a large object was placed in a span of its own, which was paid for with the credit of its own pages; or no run is free, as the line says, and
-- the worker has no block; or memory ran out, before a run was taken, cut or missed. The cached spans are as they were
abbrev pub AllocatesLarge : (pages distance n k : ℕ) → Hand → Hand → Result ℕ Refused → Type 0
AllocatesLarge pages distance n k old new (Ok at) = (b : Body) × ((said : List Entry) × Holds [] said old new × Sums (8192 * n) 1 0 1 said
    × PlacesLarge n k at old.worker.view.generation said
    × Then (HasPaidFor old.worker.view.generation pages distance (8192 * n) n) (Then (MadeAtLast old n b) (Then (HasSpent (8192 * n)) (HasPut old.worker.view.generation k b))) said)
AllocatesLarge pages distance n k old new (Err (NoRun line)) = WasNoRun old n line × ((said : List Entry) × Holds [] said old new × Sums 0 0 1 0 said × (placings said ≡ [])
    × (refusals said ≡ record { number = line; pages = n; class = k } ∷ [])
    × Then (HasPaidFor old.worker.view.generation pages distance (8192 * n) n) (MissedAtLast old n k line) said × HasNoOwnBlock new.worker)
AllocatesLarge pages distance n k old new (Err WantsMemory) = (said : List Entry) × Holds [] said old new × Sums 0 0 0 0 said × StopsLarge old.worker.caching old.worker.view pages distance n said

-- the object was placed in a span that the worker holds, which went to the swept full set
abbrev pub PutsObject : ℕ → Body → Hand → Hand → ℕ → Type 0
PutsObject k b old new at = (at ≡ region_start + 8192 * b.page) × (new.notes ≡ old.notes)
    × ((after : Span) × IsPlacedIn 0 (span_of b) after
    × (new.worker ≡ after_said (Fills (swept_set old.worker.view.generation k 1) b.page) (after_said (Reads 1 old.worker.view.generation) (after_of (Places 0) after old.worker))))

-- a body of a new span of one object, which the worker holds: it has the body, and has not popped the span from a swept set
pub record IsForOne (k : ℕ) (b : Body) (w : Seen) : Type 0 where
  pub class : b.class ≡ k
  pub count : b.count ≡ 1
  pub empty : IsEmptyBody b
  pub lent : HasBody w.view.own b
  pub untouched : IsUntouched w.view.generation w.view.own b.page
