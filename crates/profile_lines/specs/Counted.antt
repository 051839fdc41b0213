-- What the calls of a run's tallies have counted, cycle by cycle.
use Rattle.std.specs.Prelude.{◌≡◌, ℕ, ◌<◌, ◌≤◌, Bool, true, false, ◌&&◌, ◌==◌, List, length, position}
use Rattle.page_alloc.specs.Lists.{In}
use Rattle.profile_cycle.specs.declared.buckets.Bucket.{Bucket}
use Rattle.profile_cycle.specs.declared.calls.What.{What}
use Rattle.profile_cycle.specs.declared.calls.Call.{Call}
use Rattle.profile_cycle.specs.declared.calls.View.{View}
use Rattle.profile_cycle.specs.History.{allocates, frees, publishes, count, published_allocs, published_frees}
use Rattle.profile_cycle.specs.Naming.{is_same}
use Rattle.cycle_history.specs.Requests.{Marking}
use Rattle.cycle_history.specs.Objects.{Object, is_placed}
use Rattle.run_laws.specs.Profile.{Calls, AreCalls}
use Rattle.cycle_history.specs.Profile.{Samples, allocs_at, frees_at}
use Rattle.sample_laws.specs.Counted.{of_number}
use Rattle.profile_lines.specs.Read.{bucket_at}

-- How many calls of cycle k pass a test.
abbrev pub made_in : (What → Bool) → ℕ → List Call → ℕ
made_in test k calls = count (λ c. test c.what && c.cycle == k) calls

-- How often the calls of each cycle count a bucket, by its number.
abbrev pub by_bucket : List Bucket → List Call → Calls
by_bucket buckets calls = record {
  allocated = λ k b. of_number (λ n. made_in (allocates n) k calls) (position (is_same b) buckets);
  freed = λ k b. of_number (λ n. made_in (frees n) k calls) (position (is_same b) buckets);
}

-- Calls that count, all made in cycle c.
abbrev pub AreMadeIn : ℕ → List Call → Type 0
AreMadeIn c calls = (call : Call) → In call calls → (call.cycle ≡ c) × (publishes call.what ≡ false)

-- As cycle c begins, the driver's tally has counted each ended cycle as its samples and the marks ask, and nothing of cycle c.
pub record IsCounting (marked : Marking) (s : Samples) (buckets : List Bucket) (c : ℕ) (objects : List Object) (v : View) : Type 0 where
  pub cycle : v.cycle ≡ c
  pub past : (call : Call) → In call v.calls → call.cycle < c
  pub ended : (k : ℕ) → k < c → AreCalls marked s objects (by_bucket buckets v.calls) k

-- What is published is as of mark end m.
pub record ShowsMarkEnd (marked : Marking) (s : Samples) (buckets : List Bucket) (m : ℕ) (objects : List Object) (calls : List Call) : Type 0 where
  pub allocs : (n : ℕ) → n < length buckets → published_allocs n calls ≡ allocs_at s objects m (bucket_at buckets n)
  pub frees : (n : ℕ) → n < length buckets → published_frees n calls ≡ frees_at marked s objects m (bucket_at buckets n)

-- As cycle c ends, the driver's tally has counted each cycle up to it.
pub record HasCounted (marked : Marking) (s : Samples) (buckets : List Bucket) (c : ℕ) (objects : List Object) (v : View) : Type 0 where
  pub cycle : v.cycle ≡ c
  pub past : (call : Call) → In call v.calls → call.cycle ≤ c
  pub ended : (k : ℕ) → k ≤ c → AreCalls marked s objects (by_bucket buckets v.calls) k

-- The bucket of each sample is one of these.
abbrev pub AreNamed : Samples → List Bucket → List Object → Type 0
AreNamed s buckets objects = (o : Object) → In o objects → is_placed o.answer ≡ true → s.sampled o.id ≡ true
    → (n : ℕ) × (n < length buckets) × (bucket_at buckets n ≡ record { stack = s.stack o.id; slot = o.need.slot })
