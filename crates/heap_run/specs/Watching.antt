-- What a run has published of its profile so far, if there is a publisher.
use Rattle.std.specs.Prelude.{◌≡◌, ℕ, suc, Bool, List, [], ◌∷◌, ◌++◌, length, map, Option, Some, None}
use Rattle.page_alloc.specs.Lists.{In}
use Rattle.trace_reader.specs.declared.trace.Trace.{Trace}
use Rattle.cycle_history.specs.declared.Answer.{Answer}
use Rattle.cycle_history.specs.Before.{AreObjectsBefore}
use Rattle.cycle_history.specs.Requests.{Marking, marked_by}
use Rattle.cycle_history.specs.Objects.{Object}
use Rattle.cycle_history.specs.Profile.{Bucket, Samples, samples_in}
use Rattle.profile_cycle.specs.declared.counts.Count.{Count}
use Rattle.sample_laws.specs.Counted.{Flags}
use Rattle.profile_lines.specs.Told.{count_at}
use Rattle.profile_readers.specs.Sights.{AreSights, RiseTo}
use Rattle.profile_readers.specs.declared.viewer.Sight.{Sight}
use Rattle.heap_run.specs.declared.run.Run.{Run}

-- A run went on from another: its answers, and its flags of samples, stand behind those that were there, and it knows the same buckets.
pub record GoesOn (old new : Run) : Type 0 where
  pub answers : List Answer
  pub answered : new.answers ≡ old.answers ++ answers
  pub flags : List Bool
  pub sampled : new.sampled ≡ old.sampled ++ flags
  pub known : new.profile.known ≡ old.profile.known

-- The publishes, the oldest first, are the profiles of the mark ends from m on: of each bucket the counts as of that mark end.
abbrev pub AreShownFrom : Marking → Samples → List Object → List Bucket → ℕ → List (List Count) → Type 0
AreShownFrom marked s objects buckets m [] = Unit {0}
AreShownFrom marked s objects buckets m (p ∷ publishes) = (p ≡ map (count_at marked s objects m) buckets) × AreShownFrom marked s objects buckets (suc m) publishes

-- So many profiles of the run's buckets were published: those of the first mark ends, of the objects of the first n cycles.
pub record HasPublished (t : Trace) (n k : ℕ) (run : Run) (publishes : List (List Count)) : Type 0 where
  pub number : length publishes ≡ k
  pub shown : (which : ℕ → Bool) → Flags run.sampled which → (objects : List Object) → AreObjectsBefore t n run.answers objects
      → AreShownFrom (marked_by t) (samples_in t which) objects run.profile.known 1 publishes

-- They were, on a board of so many buckets, if there is a publisher.
abbrev pub HasShown : ℕ → Trace → ℕ → ℕ → Run → Option (List (List Count)) → Type 0
HasShown buckets t n k run None = Unit {0}
HasShown buckets t n k run (Some publishes) = (length run.profile.known ≡ buckets) × HasPublished t n k run publishes

-- Each watcher's sights rise to the last publish, and are of the publisher's board.
abbrev pub AreSeen : ℕ → Option (List (List Count)) → List (List Sight) → Type 0
AreSeen buckets None seen = ⊥
AreSeen buckets (Some publishes) seen = (sights : List Sight) → In sights seen → RiseTo (length publishes) sights × AreSights buckets publishes sights
