-- The heap profile of a trace and its answers: what is published of each bucket as of the last mark end.
use Rattle.std.specs.Prelude.{◌≡◌, ℕ, ◌-◌, ◌*◌, ◌<◌, ◌≤◌, ◌⊎◌, Bool, List, map, length, slice_index_or}
use Rattle.page_alloc.specs.Lists.{In, AllApart}
use Rattle.trace_reader.specs.declared.trace.Trace.{Trace}
use Rattle.trace_reader.specs.Limits.{events_of}
use Rattle.profile_cycle.specs.declared.buckets.Bucket.{Bucket}
use Rattle.profile_cycle.specs.Naming.{buckets_of, pairs_of}
use Rattle.cycle_history.specs.declared.Answer.{Answer}
use Rattle.cycle_history.specs.Requests.{Marking, marked_by, last_cycle}
use Rattle.cycle_history.specs.Objects.{Object}
use Rattle.cycle_history.specs.Profile.{Samples, SamplesBy, samples_in, allocs_at, frees_at}
use Rattle.cycle_history.specs.Counted.{AreObjectsOf}
use Rattle.heap_text.specs.declared.text.HeapLine.{HeapLine}
use Rattle.heap_text.specs.declared.text.HeapText.{HeapText}

-- The line of a bucket with so many allocations, of which so many are freed: the others are in use, and each takes a slot.
abbrev pub told_of : Bucket → ℕ → ℕ → HeapLine
told_of b allocs frees = record { objects = allocs - frees; bytes = (allocs - frees) * b.slot; all_objects = allocs; all_bytes = allocs * b.slot; stack = b.stack }

-- The line of a bucket as of a mark end.
abbrev pub line_at : Marking → Samples → List Object → ℕ → Bucket → HeapLine
line_at marked s objects m b = told_of b (allocs_at s objects m b) (frees_at marked s objects m b)

-- The buckets of a trace, by their numbers.
abbrev pub buckets_in : Trace → List Bucket
buckets_in t = buckets_of (pairs_of (events_of t))

-- The bucket with a number.
abbrev pub bucket_at : List Bucket → ℕ → Bucket
bucket_at buckets n = slice_index_or buckets n (record { stack = 0; slot = 0 })

-- Bucket a stands before bucket b where its line has more bytes in use, or as many and its number is lower.
abbrev pub IsBefore : (ℕ → HeapLine) → ℕ → ℕ → Type 0
IsBefore line a b = ((line b).bytes < (line a).bytes) ⊎ (((line a).bytes ≡ (line b).bytes) × (a < b))

-- The lines are those of the buckets below a bound that have allocations, in their order.
pub record AreOrdered (bound : ℕ) (line : ℕ → HeapLine) (lines : List HeapLine) : Type 0 where
  pub order : List ℕ
  pub within : (n : ℕ) → In n order → (n < bound) × (1 ≤ (line n).all_objects)
  pub all : (n : ℕ) → n < bound → 1 ≤ (line n).all_objects → In n order
  pub rising : AllApart (IsBefore line) order
  pub are : lines ≡ map line order

-- The heap profile is that of these objects and samples as of the trace's last mark end.
pub record IsHeapBy (t : Trace) (which : ℕ → Bool) (objects : List Object) (heap : HeapText) : Type 0 where
  pub twice : heap.twice ≡ 2 * t.header.rate
  pub lines : AreOrdered (length (buckets_in t)) (λ n. line_at (marked_by t) (samples_in t which) objects (last_cycle t) (bucket_at (buckets_in t) n)) heap.lines

-- The heap profile is that of a trace and its answers: that of the trace's objects with these answers, whichever the countdowns sample.
abbrev pub IsHeapOf : Trace → List Answer → HeapText → Type 0
IsHeapOf t answers heap = (objects : List Object) (which : ℕ → Bool) → AreObjectsOf t answers objects → SamplesBy t.header.rate t.header.seed which objects → IsHeapBy t which objects heap
