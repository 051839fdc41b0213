-- Which buckets a run knows.
use Rattle.std.specs.Prelude.{◌≡◌, List, [], ◌⊎◌}
use Rattle.std.specs.List.{AllByRecursion}
use Rattle.trace_reader.specs.declared.trace.Trace.{Trace}
use Rattle.trace_reader.specs.Limits.{events_of}
use Rattle.profile_cycle.specs.declared.buckets.Bucket.{Bucket}
use Rattle.sample_laws.specs.Numbers.{IsNamed}

-- Each event of the trace has a bucket, if its size is above 0; or nothing is sampled, and no bucket is known.
abbrev pub KnowsBuckets : Trace → List Bucket → Type 0
KnowsBuckets t known = AllByRecursion (IsNamed known) (events_of t) ⊎ ((t.header.rate ≡ 0) × (known ≡ []))
