-- The profile of a run: which buckets it knows, which objects are sampled, and what its tally counted of them.
use Rattle.std.specs.Prelude.{◌≡◌, ℕ, suc, ◌<◌, ◌≤◌, Bool, true, false, ◌&&◌, ◌==◌, All, List, [], length, map, position}
use Rattle.page_alloc.specs.Lists.{In, count}
use Rattle.page_alloc.specs.Lives.{Life, open_lives}
use Rattle.span_state.specs.MarkSet.{dead_of}
use Rattle.trace_reader.specs.declared.trace.Trace.{Trace}
use Rattle.cycle_history.specs.Profile.{samples_in, Bucket}
use Rattle.cycle_history.specs.Requests.{marked_by}
use Rattle.cycle_history.specs.Objects.{Object}
use Rattle.run_laws.specs.CycleCalls.{dead_in, has_died}
use Rattle.profile_cycle.specs.Naming.{is_same}
use Rattle.profile_cycle.specs.Sampling.{Countdown}
use Rattle.sample_laws.specs.Counted.{Flags, events_before, of_number}
use Rattle.sample_laws.specs.Countdowns.{IsSampledTo}
use Rattle.sample_laws.specs.Numbers.{number_of}
use Rattle.profile_lines.specs.Read.{AreDifferent, IsOrder}
use Rattle.profile_lines.specs.Counted.{HasCounted, IsCounting, ShowsMarkEnd}
use Rattle.profile_lines.specs.Told.{HasTold}
use Rattle.heap_run.specs.Counts.{countdown_at}
use Rattle.heap_run.specs.Naming.{KnowsBuckets}
use Rattle.heap_run.specs.declared.run.Run.{Run}

-- The profile of a run with these objects, which are those of the first n cycles: the lists say which of them are sampled and which
-- buckets they have, and the processors' countdowns stand where the objects left them.
pub record IsProfiled (t : Trace) (n : ℕ) (objects : List Object) (run : Run) : Type 0 where
  pub ring : run.driver.tally.ring ≡ run.profile.ring
  pub some : 1 ≤ run.profile.ring.buckets
  pub room : length run.profile.known ≤ run.profile.ring.buckets
  pub drives : run.driver.tally.view.drives ≡ true
  pub alone : run.driver.tally.view.out ≡ 0
  pub different : AreDifferent run.profile.known
  pub named : KnowsBuckets t run.profile.known
  pub order : IsOrder run.profile.known run.profile.order
  pub before : length run.profile.before.items ≡ length run.profile.order
  pub flags : length run.sampled ≡ length run.answers
  pub numbers : run.buckets ≡ map (number_of run.profile.known) (events_before t n)
  pub samples : (which : ℕ → Bool) → Flags run.sampled which → (p : ℕ) → (c : Countdown) × IsSampledTo t.header.rate t.header.seed p which objects c × (p < length run.procs.items → c ≡ countdown_at run.procs.items p)

-- As a cycle begins the driver's tally has counted the cycles before it; the dead of the marks are the samples that the cycle's sweeps
-- are to free, and there are none in cycle 0.
pub record IsCountingIn (t : Trace) (c : ℕ) (objects : List Object) (run : Run) : Type 0 where
  pub counting : (which : ℕ → Bool) → Flags run.sampled which → IsCounting (marked_by t) (samples_in t which) run.profile.known c objects run.driver.tally.view
  pub may : (page : ℕ) → All (λ b. b < run.profile.ring.buckets) (dead_of run.marks page)
  pub first : c ≡ 0 → (page : ℕ) → dead_of run.marks page ≡ []
  pub dead : (which : ℕ → Bool) → Flags run.sampled which → (m : ℕ) → c ≡ suc m → (life : Life) (b : Bucket) → In life (open_lives run.driver.worker.view.before)
      → of_number (λ k. dead_in run.marks k life.page) (position (is_same b) run.profile.known) ≡ count (λ (o : Object). has_died (marked_by t) (samples_in t which) m b o && o.life == life.number) objects

-- As a cycle ends it has counted that one, too, and what is published is as of the mark end before it.
pub record HasCountedIn (t : Trace) (c : ℕ) (objects : List Object) (run : Run) : Type 0 where
  pub counted : (which : ℕ → Bool) → Flags run.sampled which → HasCounted (marked_by t) (samples_in t which) run.profile.known c objects run.driver.tally.view
  pub shows : (which : ℕ → Bool) → Flags run.sampled which → ShowsMarkEnd (marked_by t) (samples_in t which) run.profile.known c objects run.driver.tally.view.calls

-- The lines of the mark ends below m are read, where each mark end is told, and else none yet.
pub record IsToldIn (t : Trace) (m : ℕ) (objects : List Object) (run : Run) : Type 0 where
  pub each_told : run.profile.each ≡ true → (which : ℕ → Bool) → Flags run.sampled which
      → HasTold (marked_by t) (samples_in t which) run.profile.known run.profile.order m objects run.profile.before.items run.profile.lines
  pub none_told : run.profile.each ≡ false → run.profile.lines ≡ []
