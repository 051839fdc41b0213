-- What watchers saw of a run's profile.
use Rattle.std.specs.Prelude.{◌≡◌, ℕ, Bool, List, length}
use Rattle.std.specs.List.{sum_by}
use Rattle.page_alloc.specs.Lists.{In}
use Rattle.trace_reader.specs.declared.trace.Trace.{Trace}
use Rattle.cycle_history.specs.declared.Report.{Report}
use Rattle.cycle_history.specs.Requests.{Marking, last_cycle, marked_by}
use Rattle.cycle_history.specs.Objects.{Object}
use Rattle.cycle_history.specs.Profile.{Bucket, Samples, SamplesBy, allocs_at, frees_at, samples_in}
use Rattle.cycle_history.specs.Sound.{HasAnswers}
use Rattle.profile_lines.specs.Read.{AreDifferent}
use Rattle.profile_lines.specs.Counted.{AreNamed}
use Rattle.profile_readers.specs.Sights.{RiseTo}
use Rattle.profile_readers.specs.declared.viewer.Sight.{Sight}

-- These are all buckets: each sample has one of them, and no two are the same.
pub record AreAll (s : Samples) (objects : List Object) (buckets : List Bucket) : Type 0 where
  pub named : AreNamed s buckets objects
  pub different : AreDifferent buckets

-- A sight has the sums over all buckets of what the profile of its mark end says: the samples that were placed before it, and those of them that
-- it doesn't mark. Number 0 is that of the empty profile, before the first mark end.
pub record IsSightAt (marked : Marking) (s : Samples) (objects : List Object) (buckets : List Bucket) (x : Sight) : Type 0 where
  pub allocs : x.allocs ≡ sum_by (λ (b : Bucket). allocs_at s objects x.k b) buckets
  pub frees : x.frees ≡ sum_by (λ (b : Bucket). frees_at marked s objects x.k b) buckets

-- The sights of one watcher: their mark ends strictly rise, and the last is that of the trace.
pub record AreSightsOf (marked : Marking) (s : Samples) (last : ℕ) (objects : List Object) (buckets : List Bucket) (sights : List Sight) : Type 0 where
  pub rise : RiseTo last sights
  pub right : (x : Sight) → In x sights → IsSightAt marked s objects buckets x

-- So many watchers saw the profile of the trace's objects with the report's answers, of which those are samples that the processors' countdowns
-- sample, at the trace's rate and seed.
pub record IsWatched (t : Trace) (readers : ℕ) (report : Report) (seen : List (List Sight)) : Type 0 where
  pub objects : List Object
  pub answers : HasAnswers t report objects
  pub which : ℕ → Bool
  pub sampled : SamplesBy t.header.rate t.header.seed which objects
  pub buckets : List Bucket
  pub all : AreAll (samples_in t which) objects buckets
  pub count : length seen ≡ readers
  pub each : (sights : List Sight) → In sights seen → AreSightsOf (marked_by t) (samples_in t which) (last_cycle t) objects buckets sights
