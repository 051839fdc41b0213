-- Who is out in a cycle, and what the driver has meanwhile.
use Rattle.std.specs.Prelude.{◌≡◌, ℕ, zero, suc, ◌+◌, ◌-◌, ◌^◌, ◌≤◌, ◌<◌, ◌==◌, Bool, true, false, if◌then◌else◌, All, List, [], ◌∷◌, ◌++◌, drop, length, slice_index_or, take, None}
use Rattle.std.specs.List.{AllByRecursion}
use Rattle.atomic_table.specs.Seated.{TableId}
use Rattle.span_state.specs.MarkSet.{MarkSet}
use Rattle.trace_reader.specs.declared.trace.Event.{Event}
use Rattle.profile_cycle.specs.History.{RingId, joined}
use Rattle.sample_laws.specs.Counted.{all_counts}
use Rattle.span_set.specs.Asks.{WorksBy}
use Rattle.span_laws.specs.Handed.{taking_in}
use Rattle.span_set.specs.declared.hand.Hand.{Hand}
use Rattle.proc_cache.specs.Cache.{Cache}
use Rattle.heap_run.specs.Counts.{HaveBuckets, Counts, HaveSampledTo, IsOut}
use Rattle.heap_run.specs.Gains.{HasKept, gains}
use Rattle.heap_run.specs.Lanes.{HasDone}
use Rattle.span_laws.specs.CacheAnswers.{IsSettled}
use Rattle.heap_run.specs.Parts.{part_at}
use Rattle.heap_run.specs.Riding.{HaveRiddenTo}
use Rattle.heap_run.specs.Turns.{HaveAnsweredTo, IsCollecting, IsDriving, SaysNone, no_cache}
use Rattle.heap_run.specs.declared.cycle.LentLists.{LentLists}
use Rattle.heap_run.specs.declared.lanes.Lane.{Lane}
use Rattle.heap_run.specs.declared.lanes.Task.{Task}
use Rattle.heap_run.specs.declared.lanes.Task.TheVariants.{Allocate, Sweep, Scavenge}
use Rattle.heap_run.specs.declared.going_out.Start.{Start}

-- ---- the numbers of those that are out

-- Of so many processors from p on, those with an event.
abbrev pub busy : List (List Event) → ℕ → ℕ → List ℕ
busy queues zero p = []
busy queues (suc k) p = if length (slice_index_or queues p []) == 0 then busy queues k (p + 1) else p ∷ busy queues k (p + 1)

-- Of so many processors from p on, those without.
abbrev pub resting : List (List Event) → ℕ → ℕ → List ℕ
resting queues zero p = []
resting queues (suc k) p = if length (slice_index_or queues p []) == 0 then p ∷ resting queues k (p + 1) else resting queues k (p + 1)

-- So many numbers from p on.
abbrev pub rising : ℕ → ℕ → List ℕ
rising zero p = []
rising (suc k) p = p ∷ rising k (p + 1)

-- So many background sweepers, and the scavenger.
abbrev pub helpers : ℕ → List ℕ
helpers background = rising background 64 ++ 68 ∷ []

-- The numbers rise, from p on.
abbrev pub RisesFrom : ℕ → List ℕ → Type 0
RisesFrom p [] = Unit {0}
RisesFrom p (i ∷ is) = (p ≤ i) × RisesFrom (i + 1) is

-- The items of a list, the last of them first, are those of these numbers.
abbrev pub AreOf : {X : Type 0} → (ℕ → X → Type 0) → List ℕ → List X → Type 0
AreOf P [] xs = xs ≡ []
AreOf P (i ∷ is) xs = (rest : List _) × (x : _) × (xs ≡ rest ++ x ∷ []) × P i x × AreOf P is rest

-- ---- before anyone goes out

-- The driver may hand out workers: it is at work on this table with the cycle's marks, its tally is the ring's, its processors are idle, and
-- nothing was answered yet.
pub record MayStart (table : TableId) (ring : RingId) (m : MarkSet) (s : Start) : Type 0 where
  pub works : WorksBy table ring m s.driver.value
  pub parts : length s.driver.value.worker.view.parts ≡ 70
  pub few : length s.procs.value.items ≤ 64
  pub answers : length s.given.value.answers.items ≡ length s.procs.value.items
  pub sampled : length s.given.value.sampled.items ≡ length s.procs.value.items
  pub driving : IsDriving s.driver.value.worker s.procs.value.items s.driver.value
  pub collecting : IsCollecting s.driver.value
  pub drives : s.driver.value.tally.view.drives ≡ true
  pub quiet : (w : ℕ) → SaysNone (part_at s.driver.value.worker w).log

-- Each processor has a queue of events of bounded sizes, with the numbers of their buckets.
pub record AreAsked (bound : ℕ) (queues : List (List Event)) (numbers : List (List ℕ)) (s : Start) : Type 0 where
  pub count : length queues ≡ length s.procs.value.items
  pub buckets : length numbers ≡ length s.procs.value.items
  pub numbered : HaveBuckets bound queues numbers
  pub sizes : (w : ℕ) → All (λ (e : Event). e.size ≤ 2 ^ 40) (slice_index_or queues w [])

-- ---- as they go out

-- The driver has sent out workers of these numbers, the first of them last; nothing else changed.
pub record HasSent (start : Hand) (is : List ℕ) (d : Hand) : Type 0 where
  pub worker : d.worker ≡ record start.worker { away = is ++ start.worker.away; journal = d.worker.journal }
  pub notes : d.notes.items ≡ start.notes.items
  pub tally : d.tally ≡ record start.tally { view = record start.tally.view { out = start.tally.view.out + length is } }

-- A processor goes out with its cache and its lists, and any other with what is to be done.
abbrev pub IsTaskOf : Start → ℕ → Task → Type 0
IsTaskOf s i (Allocate t) = (i < length s.procs.value.items) × (t.proc ≡ slice_index_or s.procs.value.items i no_cache)
    × (t.answers ≡ slice_index_or s.given.value.answers.items i []) × (t.sampled ≡ slice_index_or s.given.value.sampled.items i [])
IsTaskOf s i (Sweep n) = length s.procs.value.items ≤ i
IsTaskOf s i Scavenge = length s.procs.value.items ≤ i

-- Only a processor goes out with a page cache.
abbrev pub IsBare : Task → Bool → Type 0
IsBare (Allocate t) caching = Unit {0}
IsBare (Sweep n) caching = caching ≡ false
IsBare Scavenge caching = caching ≡ false

-- The worker of this number was sent out from the start with its task.
pub record IsSent (s : Start) (i : ℕ) (l : Lane) : Type 0 where
  pub low : i < 69
  pub out : IsOut i s.driver.value l.hand
  pub bare : IsBare l.task l.hand.worker.caching
  pub task : IsTaskOf s i l.task

-- Each list is as it was at the start where its processor has no event.
pub record HasLent (s : Start) (queues : List (List Event)) (given : LentLists) : Type 0 where
  pub lists : length given.answers.items ≡ length s.given.value.answers.items
  pub lists_too : length given.sampled.items ≡ length s.given.value.sampled.items
  pub rest : (w : ℕ) → slice_index_or queues w [] ≡ [] → slice_index_or given.answers.items w [] ≡ slice_index_or s.given.value.answers.items w []
  pub rest_too : (w : ℕ) → slice_index_or queues w [] ≡ [] → slice_index_or given.sampled.items w [] ≡ slice_index_or s.given.value.sampled.items w []

-- Of the processors those from p on have gone out, where they have an event, behind the scavenger and the sweepers; the others are still in the list.
pub record AreSent (s : Start) (queues : List (List Event)) (background p : ℕ) (lanes : List Lane) (stay procs : List Cache) (given : LentLists) (d : Hand) : Type 0 where
  pub long : procs ≡ take p s.procs.value.items
  pub sent : HasSent s.driver.value (busy queues (length s.procs.value.items - p) p ++ helpers background) d
  pub went : AreOf (IsSent s) (busy queues (length s.procs.value.items - p) p ++ helpers background) lanes
  pub stays : AreOf (λ (i : ℕ) c. c ≡ slice_index_or s.procs.value.items i no_cache) (resting queues (length s.procs.value.items - p) p) stay
  pub lent : HasLent s queues given
  pub early : (w : ℕ) → w < p → slice_index_or given.answers.items w [] ≡ slice_index_or s.given.value.answers.items w []
  pub early_too : (w : ℕ) → w < p → slice_index_or given.sampled.items w [] ≡ slice_index_or s.given.value.sampled.items w []

-- ---- as they come back

-- The worker of this number was sent out, and has run.
pub record IsBack (riding : Bool) (s : Start) (m : MarkSet) (queues : List (List Event)) (numbers : List (List ℕ)) (i : ℕ) (l : Lane) : Type 0 where
  pub before : Lane
  pub sent : IsSent s i before
  pub ran : HasDone riding m queues numbers before l

-- A worker that is out may be taken in by the driver: it is of this table and has no block out, and its tally is one of the ring's that was split off in the driver's cycle.
pub record MayJoin (table : TableId) (ring : RingId) (d h : Hand) : Type 0 where
  pub out : h.worker.table ≡ table
  pub settled : IsSettled h.worker
  pub of_ring : h.tally.ring ≡ ring
  pub split : h.tally.view.drives ≡ false
  pub cycle : h.tally.view.cycle ≡ d.tally.view.cycle

-- The driver took a worker in, with its notes and its tally.
pub record IsTakenIn (h old new : Hand) : Type 0 where
  pub worker : new.worker ≡ taking_in h.worker old.worker
  pub notes : new.notes.items ≡ old.notes.items ++ h.notes.items
  pub tally : new.tally ≡ record old.tally { view = joined old.tally.view h.tally.view }

-- The driver as it would be with all back that are out: nobody more is away, and no tally more is out, than at the start.
abbrev pub at_home : Hand → Hand → Hand
at_home start d = record {
  worker = record d.worker { away = start.worker.away; journal = None };
  notes = d.notes;
  tally = record d.tally { view = record d.tally.view { out = start.tally.view.out } };
}

-- Workers of these numbers are out since the start, the first of them went last; the driver knows of their parts what it knew at the start.
pub record HasOut (start : Hand) (is : List ℕ) (d : Hand) : Type 0 where
  pub rises : RisesFrom 0 is
  pub away : d.worker.away ≡ is ++ start.worker.away
  pub out : d.tally.view.out ≡ start.tally.view.out + length is
  pub parts : AllByRecursion (λ (i : ℕ). part_at d.worker i ≡ part_at start.worker i) is

-- Of the processors those below p are back: they have answered their events, and what they came to is in their lists; each other is as it was at the
-- start.
pub record HasTaken (riding : Bool) (s : Start) (m : MarkSet) (queues : List (List Event)) (numbers : List (List ℕ)) (p : ℕ) (procs : List Cache) (given : LentLists) (d : Hand) : Type 0 where
  pub long : length procs ≡ p
  pub driving : IsDriving s.driver.value.worker (procs ++ drop p s.procs.value.items) (at_home s.driver.value d)
  pub collecting : IsCollecting (at_home s.driver.value d)
  pub lists : length given.answers.items ≡ length s.given.value.answers.items
  pub lists_too : length given.sampled.items ≡ length s.given.value.sampled.items
  pub rest : (w : ℕ) → p ≤ w → slice_index_or queues w [] ≡ [] → slice_index_or given.answers.items w [] ≡ slice_index_or s.given.value.answers.items w []
  pub rest_too : (w : ℕ) → p ≤ w → slice_index_or queues w [] ≡ [] → slice_index_or given.sampled.items w [] ≡ slice_index_or s.given.value.sampled.items w []
  pub kept : (w : ℕ) → w < p → HasKept (slice_index_or s.given.value.answers.items w []) (slice_index_or given.answers.items w [])
  pub kept_too : (w : ℕ) → w < p → HasKept (slice_index_or s.given.value.sampled.items w []) (slice_index_or given.sampled.items w [])
  pub answered : HaveAnsweredTo riding queues p (take p (gains s.given.value.answers.items given.answers.items)) (at_home s.driver.value d).worker
  pub riders : HaveRiddenTo riding queues p (take p (gains s.given.value.answers.items given.answers.items))
  pub sampled_are : HaveSampledTo riding queues p (take p (gains s.given.value.answers.items given.answers.items)) (take p (gains s.given.value.sampled.items given.sampled.items)) s.procs.value.items (procs ++ drop p s.procs.value.items)
  pub counts : Counts m (all_counts p (take p (gains s.given.value.sampled.items given.sampled.items)) numbers) s.driver.value (at_home s.driver.value d)

-- Of the processors those from p on are still to be taken in, and the sweepers and the scavenger behind them.
pub record AreStillOut (riding : Bool) (s : Start) (m : MarkSet) (queues : List (List Event)) (numbers : List (List ℕ)) (background p : ℕ) (lanes : List Lane) (stay procs : List Cache) (given : LentLists) (d : Hand) : Type 0 where
  pub outs : HasOut s.driver.value (busy queues (length s.procs.value.items - p) p ++ helpers background) d
  pub back : AreOf (IsBack riding s m queues numbers) (busy queues (length s.procs.value.items - p) p ++ helpers background) lanes
  pub stays : AreOf (λ (i : ℕ) c. c ≡ slice_index_or s.procs.value.items i no_cache) (resting queues (length s.procs.value.items - p) p) stay
  pub taken : HasTaken riding s m queues numbers p procs given d
