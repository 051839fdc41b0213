-- The course of a run: the trace that it runs, and the base of it so far, of which all is that the heap is asked.
use Rattle.std.specs.Prelude.{◌≡◌, ℕ, suc, ◌+◌, ◌-◌, ◌<◌, ◌≤◌, List, [], ◌⊎◌, length, slice_index_or, Option}
use Rattle.std.specs.List.{AllByRecursion}
use Rattle.trace_reader.specs.declared.trace.Trace.{Trace}
use Rattle.trace_reader.specs.declared.trace.Cycle.{Cycle}
use Rattle.trace_reader.specs.Limits.{events_of}
use Rattle.cycle_history.specs.declared.Answer.{Answer}
use Rattle.cycle_history.specs.declared.versions.TheConstants.{TINY_VERSION}
use Rattle.cycle_history.specs.Before.{AreAlike, IsLimited, objects_before}
use Rattle.profile_cycle.specs.declared.buckets.Bucket.{Bucket}
use Rattle.profile_cycle.specs.declared.counts.Count.{Count}
use Rattle.sample_laws.specs.Numbers.{IsNamed}
use Rattle.tiny_alloc.specs.Base.{as_version_2, based_answers}
use Rattle.tiny_alloc.specs.Growing.{HasGrown, lone_events}
use Rattle.tiny_alloc.specs.Riders.{part_at}
use Rattle.tiny_alloc.specs.Sound.{AreRiding}
use Rattle.heap_run.specs.Naming.{KnowsBuckets}
use Rattle.heap_run.specs.Runs.{HasBegun, HasCompleted}
use Rattle.heap_run.specs.Watching.{HasShown}
use Rattle.heap_run.specs.declared.course.Course.{Course}
use Rattle.heap_run.specs.declared.course.Course.TheVariants.{Plain, Tiny}
use Rattle.heap_run.specs.declared.course.Rides.{Rides}
use Rattle.heap_run.specs.declared.run.Run.{Run}

-- ---- what a course has

-- The trace that is run.
abbrev pub trace_of : Course → Trace
trace_of (Plain t) = t.now
trace_of (Tiny r) = r.trace.now

-- The trace that the heap is asked for: the trace itself, or the base of it so far.
abbrev pub base_of : Course → Trace
base_of (Plain t) = t.now
base_of (Tiny r) = r.growing.trace

-- The answers that are printed where these are those of the base.
abbrev pub printed_by : Course → List Answer → List Answer
printed_by (Plain t) answers = answers
printed_by (Tiny r) answers = r.printed

-- The answers that a run prints.
abbrev pub printed_of : Course → Run → List Answer
printed_of course run = printed_by course run.answers

-- Each object that has a size has a bucket as if each tiny one had a block of its own; or nothing is sampled, and no bucket is known.
abbrev pub KnowsLeads : Trace → List Bucket → Type 0
KnowsLeads t known = AllByRecursion (IsNamed known) (lone_events (events_of t)) ⊎ ((t.header.rate ≡ 0) × (known ≡ []))

-- Cycle c of a trace with tiny objects is under way, and the objects before mark end n are answered: the base has grown so far, the riders
-- stand in their blocks, and the run has the base's answers.
pub record HasRidden (c n : ℕ) (r : Rides) (run : Run) : Type 0 where
  pub version : TINY_VERSION ≤ r.trace.now.header.version
  pub limited : IsLimited (as_version_2 r.trace.now)
  pub grown : HasGrown r.trace.now r.printed c n r.growing
  pub printed : length r.printed ≡ objects_before r.trace.now n
  pub riding : AreRiding r.trace.now r.printed
  pub based : run.answers ≡ based_answers (part_at r.trace.now r.printed) 0 r.printed
  pub named : KnowsLeads r.trace.now run.profile.known

-- A trace without tiny objects is its own base.
pub record IsPlain (c : ℕ) (t : Trace) (run : Run) : Type 0 where
  pub version : t.header.version < TINY_VERSION
  pub limited : IsLimited t
  pub cycle : c < length t.cycles
  pub named : KnowsBuckets t run.profile.known

-- The run is in cycle c, and has answered the objects before mark end n.
abbrev pub IsOnCourse : ℕ → ℕ → Course → Run → Type 0
IsOnCourse c n (Plain t) run = IsPlain c t.now run
IsOnCourse c n (Tiny r) run = HasRidden c n r run

-- A course as a run of the trace begins.
abbrev pub IsFresh : Trace → Course → Type 0
IsFresh t (Plain u) = (u.now ≡ t) × (t.header.version < TINY_VERSION)
IsFresh t (Tiny r) = (r.trace.now ≡ t) × (TINY_VERSION ≤ t.header.version) × (r.printed ≡ []) × HasGrown t [] 0 0 r.growing

-- ---- whatever the base becomes

-- A trace is one that a base may become whose cycles before cycle c are settled: it is within the limits, has those cycles and more, and its
-- buckets are known.
pub record MayBecome (c : ℕ) (known : List Bucket) (base t : Trace) : Type 0 where
  pub limited : IsLimited t
  pub alike : AreAlike c base t
  pub more : c < length t.cycles
  pub named : KnowsBuckets t known

-- The events of cycle c are settled, too.
pub record MayEnd (c : ℕ) (known : List Bucket) (base t : Trace) : Type 0 where
  pub may : MayBecome c known base t
  pub events : (d : Cycle) → (slice_index_or t.cycles c d).events ≡ (slice_index_or base.cycles c d).events

-- The run has begun cycle c, whatever the base becomes.
abbrev pub HasBegunAll : ℕ → Trace → Run → Type 0
HasBegunAll c base run = (t : Trace) → MayBecome c run.profile.known base t → HasBegun t c run

-- It has ended cycle c.
abbrev pub HasCompletedAll : ℕ → Trace → Run → Type 0
HasCompletedAll c base run = (t : Trace) → MayEnd c run.profile.known base t → HasCompleted t c run

-- It has shown what it is to show before cycle c, and as cycle c ends.
abbrev pub HasShownAll : ℕ → ℕ → Trace → Run → Option (List (List Count)) → Type 0
HasShownAll buckets c base run publisher = (t : Trace) → MayBecome c run.profile.known base t → HasShown buckets t c (c - 1) run publisher

abbrev pub HasShownEnd : ℕ → ℕ → Trace → Run → Option (List (List Count)) → Type 0
HasShownEnd buckets c base run publisher = (t : Trace) → MayEnd c run.profile.known base t → HasShown buckets t (suc c) c run publisher

-- ---- from cycle to cycle

-- A course may go on from cycle c, whose objects are answered, to the next one.
abbrev pub MayGoOn : ℕ → Course → Type 0
MayGoOn c (Plain t) = c + 1 < length t.now.cycles
MayGoOn c (Tiny r) = IsLimited (as_version_2 r.trace.now) × HasGrown r.trace.now r.printed c (c + 1) r.growing × (c + 1 < length r.trace.now.cycles)

-- The base has the mark end of cycle c, and the next cycle is under way.
pub record GrowsOn (c : ℕ) (r r' : Rides) : Type 0 where
  pub trace : r'.trace ≡ r.trace
  pub printed : r'.printed ≡ r.printed
  pub grown : HasGrown r.trace.now r.printed (c + 1) (c + 1) r'.growing
  pub alike : AreAlike c r.growing.trace r'.growing.trace
  pub events : (d : Cycle) → (slice_index_or r'.growing.trace.cycles c d).events ≡ (slice_index_or r.growing.trace.cycles c d).events

-- A course went on to the next cycle.
abbrev pub HasGoneOn : ℕ → Course → Course → Type 0
HasGoneOn c (Plain t) course = course ≡ Plain t
HasGoneOn c (Tiny r) course = (r' : Rides) × (course ≡ Tiny r') × GrowsOn c r r'
