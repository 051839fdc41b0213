-- Buckets with their numbers.
use Rattle.std.specs.Prelude.{ℕ, ◌+◌, List, [], ◌∷◌}
use Rattle.profile_cycle.specs.declared.buckets.Bucket.{Bucket}
use Rattle.profile_lines.specs.declared.order.Keyed.{Keyed}

-- The buckets of a list, numbered from n on.
abbrev pub keyed_from : ℕ → List Bucket → List Keyed
keyed_from n [] = []
keyed_from n (b ∷ buckets) = record { stack = b.stack; slot = b.slot; number = n } ∷ keyed_from (n + 1) buckets
