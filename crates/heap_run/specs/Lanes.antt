-- The workers of a cycle, which are out beside each other: what each is given, and what it does.
use Rattle.std.specs.Prelude.{◌≡◌, ℕ, ◌^◌, ◌<◌, ◌≤◌, Bool, false, All, List, [], length, reverse, slice_index_or}
use Rattle.atomic_table.specs.Seated.{TableId}
use Rattle.span_state.specs.MarkSet.{MarkSet}
use Rattle.trace_reader.specs.declared.trace.Event.{Event}
use Rattle.profile_cycle.specs.History.{RingId}
use Rattle.sample_laws.specs.Counted.{sampled_counts}
use Rattle.sample_laws.specs.Countdowns.{flags, spent}
use Rattle.span_laws.specs.Asks.{IsIdle}
use Rattle.span_laws.specs.declared.view.Part.{Part}
use Rattle.span_set.specs.Asks.{WorksBy}
use Rattle.span_set.specs.declared.hand.Hand.{Hand}
use Rattle.heap_run.specs.Counts.{Counts, no_counts}
use Rattle.heap_run.specs.Firsts.{FlushesFor}
use Rattle.heap_run.specs.Gains.{HasKept, behind}
use Rattle.span_laws.specs.CacheAnswers.{IsSettled}
use Rattle.heap_run.specs.Riding.{RidersStand, asked_of, given_of}
use Rattle.heap_run.specs.Turns.{HasActed, IsCaching, SaysAnswers, SaysNone}
use Rattle.heap_run.specs.declared.lanes.Lane.{Lane}
use Rattle.heap_run.specs.declared.lanes.Task.{Task}
use Rattle.heap_run.specs.declared.lanes.Task.TheVariants.{Allocate, Sweep, Scavenge}
use Rattle.heap_run.specs.declared.lanes.Turn.{Turn}

-- ---- what a worker is given

-- A processor's cache is as its worker's part has it; its events have sizes, and buckets with numbers below the bound.
pub record MayAnswer (g : ℕ) (h : Part) (bound : ℕ) (queues : List (List Event)) (numbers : List (List ℕ)) (t : Turn) : Type 0 where
  pub caching : IsCaching g h t.proc
  pub queued : t.proc.number < length queues
  pub numbered : t.proc.number < length numbers
  pub sizes : All (λ (e : Event). e.size ≤ 2 ^ 40) (slice_index_or queues t.proc.number [])
  pub as_many : length (slice_index_or numbers t.proc.number []) ≡ length (slice_index_or queues t.proc.number [])
  pub known : All (λ (b : ℕ). b < bound) (slice_index_or numbers t.proc.number [])

-- Sweeping and scavenging need nothing more.
abbrev pub MayDo : ℕ → Part → ℕ → List (List Event) → List (List ℕ) → Task → Type 0
MayDo g h bound queues numbers (Allocate t) = MayAnswer g h bound queues numbers t
MayDo g h bound queues numbers (Sweep n) = Unit {0}
MayDo g h bound queues numbers Scavenge = Unit {0}

-- A worker of this table is out and idle, works by the cycle's marks with a tally of the ring, and may do its task.
pub record IsReady (table : TableId) (ring : RingId) (m : MarkSet) (queues : List (List Event)) (numbers : List (List ℕ)) (l : Lane) : Type 0 where
  pub works : WorksBy table ring m l.hand
  pub idle : IsIdle l.hand.worker.view.own
  pub may : MayDo l.hand.worker.view.generation l.hand.worker.view.own ring.buckets queues numbers l.task

-- ---- what a worker does

-- A processor answered its events, with the numbers of their buckets, behind the flush of its cache, and has no block out.
pub record AnswersTurn (riding : Bool) (m : MarkSet) (events : List Event) (numbers : List ℕ) (old new : Hand) (t t' : Turn) : Type 0 where
  pub acted : HasActed (SaysAnswers (asked_of riding (reverse events) (reverse (behind t.answers t'.answers))) (given_of riding (reverse events) (reverse (behind t.answers t'.answers)))) old new
  pub riders : RidersStand riding (reverse events) (reverse (behind t.answers t'.answers))
  pub caching : IsCaching old.worker.view.generation new.worker.view.own t'.proc
  pub number : t'.proc.number ≡ t.proc.number
  pub sampled : reverse (behind t.sampled t'.sampled) ≡ flags t.proc.countdown (asked_of riding (reverse events) (reverse (behind t.answers t'.answers))) (given_of riding (reverse events) (reverse (behind t.answers t'.answers)))
  pub spent_is : t'.proc.countdown ≡ spent t.proc.countdown (asked_of riding (reverse events) (reverse (behind t.answers t'.answers))) (given_of riding (reverse events) (reverse (behind t.answers t'.answers)))
  pub counts : Counts m (sampled_counts (behind t.sampled t'.sampled) numbers) old new
  pub flushed : FlushesFor (asked_of riding (reverse events) (reverse (behind t.answers t'.answers))) t.proc t'.proc old new
  pub settled : IsSettled new.worker
  pub kept : HasKept t.answers t'.answers
  pub kept_too : HasKept t.sampled t'.sampled

-- A worker that is no processor's answered nothing, and cached nothing.
pub record Helps (m : MarkSet) (old new : Hand) : Type 0 where
  pub acted : HasActed SaysNone old new
  pub cached : new.worker.view.own.cached ≡ old.worker.view.own.cached
  pub counts : Counts m no_counts old new

-- The task was done.
abbrev pub DoesTask : Bool → MarkSet → List (List Event) → List (List ℕ) → Hand → Hand → Task → Task → Type 0
DoesTask riding m queues numbers old new (Allocate t) task = (t' : Turn) × (task ≡ Allocate t') × AnswersTurn riding m (slice_index_or queues t.proc.number []) (slice_index_or numbers t.proc.number []) old new t t'
DoesTask riding m queues numbers old new (Sweep n) task = Helps m old new
DoesTask riding m queues numbers old new Scavenge task = Helps m old new

-- It was, where memory was found for it.
abbrev pub HasDone : Bool → MarkSet → List (List Event) → List (List ℕ) → Lane → Lane → Type 0
HasDone riding m queues numbers old new = new.refused ≡ false → DoesTask riding m queues numbers old.hand new.hand old.task new.task
