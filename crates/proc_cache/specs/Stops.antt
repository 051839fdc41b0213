-- How far a call came before memory ran out: what its log has then, whatever it was about to do. A log has its newest entry first.
use Rattle.std.specs.Prelude.{◌≡◌, ◌⊎◌, ℕ, ◌*◌, ◌/◌, ◌≤◌, Bool, false, List, Option}
use Rattle.size_classes.specs.Classes.{pages_of}
use Rattle.worker_log.specs.declared.Entry.{Entry}
use Rattle.worker_log.specs.Entries.{many}
use Rattle.span_laws.specs.declared.view.Span.{Span}
use Rattle.span_laws.specs.declared.view.View.{View}
use Rattle.central_lists.specs.declared.answers.Look.{Look}
use Rattle.central_lists.specs.Looks.{Then}
use Rattle.central_lists.specs.Works.{Says, nothing}
use Rattle.sweeper.specs.Entries.{is_added}
use Rattle.sweeper.specs.Reclaims.{chunks_of}
use Rattle.sweeper.specs.Work.{IsPlain, KeepsBlock, OnlySweeps, PullsBehind, TakesNone}
use Rattle.proc_cache.specs.RefillLogs.{HasLeft, HasPaidFor, LookedFor, bytes_of}

-- in the payment: spans were swept and put away, and nothing else was done
pub record StopsPaying (g : ℕ) (said : List Entry) : Type 0 where
  pub sweeps : OnlySweeps g said
  pub plain : IsPlain said

-- in the looks into the sets of class k: entries of its unswept sets were popped, and each span that was swept was pushed to its swept full set
abbrev pub StopsLooking : View → ℕ → List Entry → Type 0
StopsLooking v k said = (tried : ℕ) × (tried ≤ 100) × Says v.generation k tried nothing said

-- in the making of a span of n pages: spans were swept and put away, chunks of the region claimed, and no run was taken or missed; a worker with a page
-- cache pulled only where its block had no page left, and one without did nothing to a block
pub record StopsMaking (caching : Bool) (g region n : ℕ) (said : List Entry) : Type 0 where
  pub sweeps : OnlySweeps g said
  pub takes_none : TakesNone said
  pub few : many (is_added 4) said ≤ chunks_of region
  pub pulls : PullsBehind n said
  pub uncached : caching ≡ false → KeepsBlock said

-- the sets were looked into for a span of class k
abbrev pub HasLooked : View → ℕ → List Entry → Type 0
HasLooked v k said = (look : Look) × ((tried : ℕ) × LookedFor v.generation k look tried said)

-- the search for a span of class k: in the looks, or behind them in the making of one
abbrev pub StopsTaking : Bool → View → ℕ → List Entry → Type 0
StopsTaking caching v k said = StopsLooking v k said ⊎ Then (HasLooked v k) (StopsMaking caching v.generation v.region (pages_of (k / 2))) said

-- the same with the payment before
abbrev pub StopsFinding : Bool → View → (pages distance : ℕ) → ℕ → List Entry → Type 0
StopsFinding caching v pages distance k said = StopsPaying v.generation said ⊎ Then (HasPaidFor v.generation pages distance (bytes_of k) 0) (StopsTaking caching v k) said

-- a refill of class k, whose full span left before
abbrev pub StopsFilling : Bool → View → (pages distance : ℕ) → ℕ → Option Span → List Entry → Type 0
StopsFilling caching v pages distance k o said = Then (HasLeft v.generation k o) (StopsFinding caching v pages distance k) said

-- the search for a run of n pages for a large object: in the payment, or behind it in the making of the span
abbrev pub StopsLarge : Bool → View → (pages distance n : ℕ) → List Entry → Type 0
StopsLarge caching v pages distance n said = StopsPaying v.generation said
    ⊎ Then (HasPaidFor v.generation pages distance (8192 * n) n) (StopsMaking caching v.generation v.region n) said
