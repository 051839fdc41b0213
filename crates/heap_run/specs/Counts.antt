-- What hands count toward the profile.
use Rattle.std.specs.Prelude.{◌≡◌, ℕ, ◌<◌, ◌≤◌, Bool, All, List, [], ◌++◌, length, reverse, slice_index_or}
use Rattle.span_state.specs.MarkSet.{MarkSet}
use Rattle.span_state.specs.declared.sweep.SweepNote.{SweepNote}
use Rattle.trace_reader.specs.declared.trace.Event.{Event}
use Rattle.cycle_history.specs.declared.Answer.{Answer}
use Rattle.profile_cycle.specs.declared.calls.Call.{Call}
use Rattle.profile_cycle.specs.History.{Standing, split_off}
use Rattle.profile_cycle.specs.Kept.{all_allocs, all_frees}
use Rattle.profile_cycle.specs.Sampling.{Countdown}
use Rattle.profile_lines.specs.Counted.{AreMadeIn}
use Rattle.run_laws.specs.CycleCalls.{dead_in, sum_of}
use Rattle.sample_laws.specs.Countdowns.{flags, spent}
use Rattle.span_set.specs.declared.hand.Hand.{Hand}
use Rattle.proc_cache.specs.Cache.{Cache}
use Rattle.heap_run.specs.Parts.{goes_out}
use Rattle.heap_run.specs.Riding.{asked_at, given_at}
use Rattle.heap_run.specs.Turns.{no_cache}

-- ---- one hand

-- How many dead samples of the bucket the marks name at the pages of these sweeps.
abbrev pub dead_at : MarkSet → List SweepNote → ℕ → ℕ
dead_at m notes bucket = sum_of (λ (note : SweepNote). dead_in m bucket note.page) notes

-- A tally behind more calls, the newest of which stands first.
abbrev pub with_calls : Standing → List Call → Standing
with_calls t made = record t { view = record t.view { calls = made ++ t.view.calls } }

-- The hand made calls in its tally's cycle: so many allocations of each bucket, and a free for each dead sample that its
-- sweeps found.
pub record Counts (m : MarkSet) (allocs : ℕ → ℕ) (old new : Hand) : Type 0 where
  pub more : List SweepNote
  pub notes : new.notes.items ≡ old.notes.items ++ more
  pub made : List Call
  pub tally : new.tally ≡ with_calls old.tally made
  pub now : AreMadeIn old.tally.view.cycle made
  pub allocs_are : (bucket : ℕ) → all_allocs bucket made ≡ allocs bucket
  pub frees_are : (bucket : ℕ) → all_frees bucket made ≡ dead_at m more bucket

-- Nothing is counted as allocated.
abbrev pub no_counts : ℕ → ℕ
no_counts bucket = 0

-- A worker is handed out with this number, with a page cache or without one, with no notes, and a tally that was split off.
pub record IsOut (number : ℕ) (driver hand : Hand) : Type 0 where
  pub worker : hand.worker ≡ goes_out hand.worker.caching number driver.worker
  pub notes : hand.notes.items ≡ []
  pub tally : hand.tally ≡ record driver.tally { view = split_off driver.tally.view }

-- ---- all processors

-- Each event of each processor has a number, and each number is below the bound.
pub record HaveBuckets (bound : ℕ) (queues : List (List Event)) (numbers : List (List ℕ)) : Type 0 where
  pub sizes : (w : ℕ) → length (slice_index_or numbers w []) ≡ length (slice_index_or queues w [])
  pub below : (w : ℕ) → All (λ b. b < bound) (slice_index_or numbers w [])

-- The countdown of processor w.
abbrev pub countdown_at : List Cache → ℕ → Countdown
countdown_at procs w = (slice_index_or procs w no_cache).countdown

-- No countdown was spent.
abbrev pub KeepCountdowns : List Cache → List Cache → Type 0
KeepCountdowns old new = (w : ℕ) → w < length old → countdown_at new w ≡ countdown_at old w

-- What each processor asked for is sampled by its countdown where it was placed, and has spent it. A rider was not.
pub record HaveSampled (riding : Bool) (queues : List (List Event)) (answers : List (List Answer)) (sampled : List (List Bool)) (old new : List Cache) : Type 0 where
  pub flags_are : (w : ℕ) → w < length old → reverse (slice_index_or sampled w []) ≡ flags (countdown_at old w) (asked_at riding queues answers w) (given_at riding queues answers w)
  pub spent_are : (w : ℕ) → w < length old → countdown_at new w ≡ spent (countdown_at old w) (asked_at riding queues answers w) (given_at riding queues answers w)

-- The first k processors have sampled their objects, and no other has spent its countdown.
pub record HaveSampledTo (riding : Bool) (queues : List (List Event)) (k : ℕ) (answers : List (List Answer)) (sampled : List (List Bool)) (old new : List Cache) : Type 0 where
  pub size : length sampled ≡ k
  pub flags_are : (w : ℕ) → w < k → reverse (slice_index_or sampled w []) ≡ flags (countdown_at old w) (asked_at riding queues answers w) (given_at riding queues answers w)
  pub spent_are : (w : ℕ) → w < k → countdown_at new w ≡ spent (countdown_at old w) (asked_at riding queues answers w) (given_at riding queues answers w)
  pub others : (w : ℕ) → k ≤ w → countdown_at new w ≡ countdown_at old w
