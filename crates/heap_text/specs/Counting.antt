-- How the buckets of a trace are counted, one object after another.
use Rattle.std.specs.Prelude.{◌≡◌, ℕ, zero, suc, ◌+◌, ◌^◌, ◌<◌, ◌≤◌, nat_lt, Bool, false, ◌&&◌, not, List, [], ◌∷◌, ◌++◌, length, map, sum_by, slice_index_or, if◌then◌else◌, Some}
use Rattle.std.specs.List.{AllByRecursion, slice_get}
use Rattle.page_alloc.specs.Lists.{AllApart, one_if}
use Rattle.trace_reader.specs.declared.trace.Header.{Header}
use Rattle.trace_reader.specs.declared.trace.Trace.{Trace}
use Rattle.trace_reader.specs.declared.trace.Event.{Event}
use Rattle.profile_cycle.specs.declared.buckets.Bucket.{Bucket}
use Rattle.profile_cycle.specs.declared.counts.Count.{Count}
use Rattle.profile_cycle.specs.Naming.{is_same}
use Rattle.profile_cycle.specs.Sampling.{Countdown, countdown}
use Rattle.cycle_history.specs.declared.Answer.{Answer}
use Rattle.cycle_history.specs.Requests.{Request, marked_by, last_cycle}
use Rattle.cycle_history.specs.Objects.{Object}
use Rattle.cycle_history.specs.Profile.{SamplesBy, allocs_at, frees_at, placed_by, samples_in}
use Rattle.cycle_history.specs.Counted.{AreFirstOf}
use Rattle.heap_text.specs.declared.asked.Asked.{Asked}
use Rattle.heap_text.specs.declared.order.Ranked.{Ranked}
use Rattle.heap_text.specs.declared.text.HeapLine.{HeapLine}
use Rattle.heap_text.specs.Published.{buckets_in}

-- ---- requests

-- The request of an event with its cycle.
abbrev pub request_of : Asked → Request
request_of asked = record { cycle = asked.cycle; event = asked.event }

-- An event in a cycle.
abbrev pub asked_in : ℕ → Event → Asked
asked_in cycle event = record { cycle = cycle; event = event }

-- ---- counts

-- Nothing counted.
abbrev pub no_count : Count
no_count = record { allocs = 0; frees = 0 }

-- What was counted of a bucket.
abbrev pub count_at : List Count → ℕ → Count
count_at counts k = slice_index_or counts k no_count

-- No two buckets are the same.
abbrev pub AreDifferent : List Bucket → Type 0
AreDifferent buckets = AllApart (λ a b. is_same a b ≡ false) buckets

-- The countdowns of all processors, before any object.
abbrev pub AreFirst : Header → List Countdown → Type 0
AreFirst h states = (p : ℕ) (c : Countdown) → slice_get states p ≡ Some c → c ≡ countdown h.rate h.seed p []

-- The samplers of all processors stand behind the first n objects.
abbrev pub AreBehind : Trace → List Answer → ℕ → List Countdown → Type 0
AreBehind t answers n states = (objects : List Object) (p : ℕ) (c : Countdown) → AreFirstOf t answers n objects → slice_get states p ≡ Some c
    → c ≡ countdown t.header.rate t.header.seed p (map (λ (o : Object). o.need.slot) (placed_by p objects))

-- The counts of the buckets are those of the first n objects, whichever of them the countdowns sample.
pub record AreCounted (t : Trace) (answers : List Answer) (n : ℕ) (counts : List Count) : Type 0 where
  pub size : length counts ≡ length (buckets_in t)
  pub few : sum_by (λ (c : Count). c.allocs) counts ≤ n
  pub freed : AllByRecursion (λ (c : Count). c.frees ≤ c.allocs) counts
  pub allocs : (objects : List Object) (which : ℕ → Bool) (k : ℕ) (b : Bucket) → AreFirstOf t answers n objects → SamplesBy t.header.rate t.header.seed which objects → slice_get (buckets_in t) k ≡ Some b
      → (count_at counts k).allocs ≡ allocs_at (samples_in t which) objects (last_cycle t) b
  pub frees : (objects : List Object) (which : ℕ → Bool) (k : ℕ) (b : Bucket) → AreFirstOf t answers n objects → SamplesBy t.header.rate t.header.seed which objects → slice_get (buckets_in t) k ≡ Some b
      → (count_at counts k).frees ≡ frees_at (marked_by t) (samples_in t which) objects (last_cycle t) b

-- One more object of the bucket was counted, which is freed unless it is marked.
pub record CountsOne (buckets : List Bucket) (key : Bucket) (marked : Bool) (old new : List Count) : Type 0 where
  pub size : length new ≡ length old
  pub sum : sum_by (λ (c : Count). c.allocs) new ≡ sum_by (λ (c : Count). c.allocs) old + 1
  pub freed : AllByRecursion (λ (c : Count). c.frees ≤ c.allocs) new
  pub allocs : (k : ℕ) (b : Bucket) → slice_get buckets k ≡ Some b → (count_at new k).allocs ≡ one_if (is_same key b) + (count_at old k).allocs
  pub frees : (k : ℕ) (b : Bucket) → slice_get buckets k ≡ Some b → (count_at new k).frees ≡ one_if (is_same key b && not marked) + (count_at old k).frees

-- ---- lines

-- A bucket of an event within the limits.
pub record IsLimitedBucket (b : Bucket) : Type 0 where
  pub some : 1 ≤ b.slot
  pub slot : b.slot ≤ 2 ^ 41
  pub stack : b.stack < 2 ^ 32

-- The lines of the buckets below a number that have allocations, each with its number.
abbrev pub ranked_to : (ℕ → HeapLine) → ℕ → List Ranked
ranked_to line zero = []
ranked_to line (suc n) = if nat_lt 0 (line n).all_objects then ranked_to line n ++ record { line = line n; number = n } ∷ [] else ranked_to line n
