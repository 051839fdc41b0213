-- What the workers of a cycle may be asked, and what they leave.
use Rattle.std.specs.Prelude.{◌≡◌, ℕ, ◌≤◌, ◌<◌, Bool, true, All, List, [], ◌++◌, length, slice_index_or}
use Rattle.std.specs.List.{AllByRecursion}
use Rattle.std.specs.List.Sorted.{IsNonDecreasingBy, IsPermutation}
use Rattle.span_state.specs.MarkSet.{dead_of}
use Rattle.span_state.specs.declared.sweep.SweepNote.{SweepNote}
use Rattle.trace_reader.specs.declared.trace.Trace.{Trace}
use Rattle.trace_reader.specs.declared.trace.Event.{Event}
use Rattle.trace_reader.specs.Limits.{EventFits}
use Rattle.cycle_history.specs.declared.Answer.{Answer}
use Rattle.cycle_history.specs.Requests.{caching_procs}
use Rattle.profile_cycle.specs.declared.calls.What.TheVariants.{AfterSweep}
use Rattle.profile_cycle.specs.History.{calls}
use Rattle.sample_laws.specs.By.{answers_by, events_by}
use Rattle.sample_laws.specs.Counted.{all_counts}
use Rattle.span_laws.specs.Asks.{IsAtWork}
use Rattle.span_set.specs.declared.hand.Hand.{Hand}
use Rattle.heap_run.specs.Counts.{Counts, HaveSampled}
use Rattle.heap_run.specs.Parts.{part_at}
use Rattle.heap_run.specs.Settled.{HasWorked}
use Rattle.heap_run.specs.Turns.{IsDriving}
use Rattle.heap_run.specs.declared.run.Run.{Run}

-- The events of a cycle are within the limits for so many processors, and each has the number of a bucket, of so many.
pub record MayAsk (procs bound : ℕ) (events : List Event) (numbers : List ℕ) : Type 0 where
  pub fit : AllByRecursion (EventFits procs) events
  pub long : length numbers ≡ length events
  pub below : AllByRecursion (λ (b : ℕ). b < bound) numbers

-- The workers of a run may go out for a cycle of the trace: the driver is at work on the run's table, with the cycle's marks, nothing of the
-- cycle is in the logs yet, and the profile has room.
pub record MayAllocate (t : Trace) (run : Run) : Type 0 where
  pub procs : length run.procs.items ≡ t.header.procs
  pub few : t.header.procs ≤ 64
  pub works : IsAtWork run.shared run.driver.worker
  pub parts : length run.driver.worker.view.parts ≡ 70
  pub caching : run.driver.worker.view.procs ≡ caching_procs t
  pub driving : IsDriving run.driver.worker run.procs.items run.driver
  pub notes : run.driver.notes.items ≡ []
  pub marks : run.marks.pairs ≡ run.driver.worker.view.marks
  pub blank : (w : ℕ) → (part_at run.driver.worker w).log ≡ []
  pub ring : run.driver.tally.ring ≡ run.profile.ring
  pub some : 1 ≤ run.profile.ring.buckets
  pub room : length run.profile.known ≤ run.profile.ring.buckets
  pub drives : run.driver.tally.view.drives ≡ true
  pub alone : run.driver.tally.view.out ≡ 0
  pub dead : (page : ℕ) → All (λ (b : ℕ). b < run.profile.ring.buckets) (dead_of run.marks page)

-- The workers of cycle c have answered its events, behind the answers that were given before, and the cycle ended: nothing else of the run
-- changed but what is said here.
pub record HasAllocated (c : ℕ) (riding : Bool) (events : List Event) (asked : List ℕ) (before after : List Answer) (old new : Run) : Type 0 where
  pub queues : List (List Event)
  pub queued : (w : ℕ) → slice_index_or queues w [] ≡ events_by w events
  -- what each processor gave
  pub given : List (List Answer)
  pub more : List Answer
  pub grown : after ≡ before ++ more
  pub long : length more ≡ length events
  pub merged : (w : ℕ) → answers_by w events more ≡ slice_index_or given w []
  -- the driver as all were back and the cycle had ended
  pub ended : Hand
  pub worked : HasWorked riding queues given old.driver new.procs.items ended
  pub procs : length new.procs.items ≡ length old.procs.items
  pub worker : new.driver.worker ≡ ended.worker
  -- which objects are sampled, and what was counted of them
  pub flag_parts : List (List Bool)
  pub flags : List Bool
  pub flags_grown : new.sampled ≡ old.sampled ++ flags
  pub flags_long : length flags ≡ length events
  pub flags_merged : (w : ℕ) → answers_by w events flags ≡ slice_index_or flag_parts w []
  pub sampled : HaveSampled riding queues given flag_parts old.procs.items new.procs.items
  pub numbers : List (List ℕ)
  pub numbers_are : (w : ℕ) → slice_index_or numbers w [] ≡ answers_by w events asked
  pub counts : Counts old.marks (all_counts (length old.procs.items) flag_parts numbers) old.driver ended
  pub first : c ≡ 0 → new.driver.tally ≡ ended.tally
  pub later : 1 ≤ c → new.driver.tally ≡ calls ended.tally AfterSweep
  -- the notes of the cycle's sweeps
  pub sorted : List SweepNote
  pub filed : new.sweeps ≡ old.sweeps ++ sorted
  pub permutation : IsPermutation ended.notes.items sorted
  pub rising : IsNonDecreasingBy (λ (n : SweepNote). n.page) sorted
  pub notes : new.driver.notes.items ≡ []
  -- what stays
  pub shared : new.shared ≡ old.shared
  pub marks : new.marks ≡ old.marks
  pub answers : new.answers ≡ old.answers
  pub buckets : new.buckets ≡ old.buckets
  pub places : new.places ≡ old.places
  pub clear : new.clear ≡ old.clear
  pub profile : new.profile ≡ old.profile
