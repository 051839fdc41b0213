-- What is published of all buckets.
use Rattle.std.specs.Prelude.{ℕ, ◌+◌, List, [], ◌∷◌}
use Rattle.profile_cycle.specs.declared.buckets.Bucket.{Bucket}
use Rattle.profile_cycle.specs.declared.calls.Call.{Call}
use Rattle.profile_cycle.specs.declared.counts.Count.{Count}
use Rattle.profile_lines.specs.Read.{count_of}

-- What is published of the buckets of a list, the first of which has the number n.
abbrev pub counts_from : List Call → ℕ → List Bucket → List Count
counts_from calls n [] = []
counts_from calls n (b ∷ buckets) = count_of calls n ∷ counts_from calls (n + 1) buckets
