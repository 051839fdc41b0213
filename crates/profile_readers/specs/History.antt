-- What a list of publishes shows.
use Rattle.std.specs.Prelude.{ℕ, List, [], ◌∷◌, replicate}
use Rattle.profile_cycle.specs.declared.counts.Count.{Count}

-- The last of these items, the first of which is given.
abbrev pub last_of : {A : Type 0} → A → List A → A
last_of x [] = x
last_of x (y ∷ ys) = last_of y ys

-- A bucket of which nothing was counted.
abbrev pub none_counted : Count
none_counted = record { allocs = 0; frees = 0 }

-- The profile after these publishes, the oldest of which stands first: the counts of the last, and before the first a 0 for each bucket.
abbrev pub profile_after : ℕ → List (List Count) → List Count
profile_after buckets publishes = last_of (replicate buckets none_counted) publishes
