-- Which lines are read from what a ring has published.
use Rattle.std.specs.Prelude.{◌≡◌, ℕ, ◌^◌, ◌<◌, Bool, false, ◌&&◌, ◌==◌, nat_lt, List, [], ◌∷◌, length, slice_index_or, if◌then◌else◌, ◌⊎◌}
use Rattle.page_alloc.specs.Lists.{In, AllApart}
use Rattle.profile_cycle.specs.declared.buckets.Bucket.{Bucket}
use Rattle.profile_cycle.specs.declared.calls.Call.{Call}
use Rattle.profile_cycle.specs.declared.counts.Count.{Count}
use Rattle.profile_cycle.specs.History.{published_allocs, published_frees}
use Rattle.profile_cycle.specs.Naming.{is_same}
use Rattle.cycle_history.specs.declared.Prof.{Prof}

-- ---- buckets and their order

-- No two buckets are the same.
abbrev pub AreDifferent : List Bucket → Type 0
AreDifferent buckets = AllApart (λ a b. is_same a b ≡ false) buckets

-- What stands where there is no bucket.
abbrev pub no_bucket : Bucket
no_bucket = record { stack = 0; slot = 0 }

-- The bucket with a number.
abbrev pub bucket_at : List Bucket → ℕ → Bucket
bucket_at buckets n = slice_index_or buckets n no_bucket

-- A bucket comes before another where its stack is lower, or its slot is lower for the same stack.
abbrev pub IsBefore : Bucket → Bucket → Type 0
IsBefore a b = (a.stack < b.stack) ⊎ ((a.stack ≡ b.stack) × (a.slot < b.slot))

-- The numbers of all buckets, each bucket before those that follow.
pub record IsOrder (buckets : List Bucket) (order : List ℕ) : Type 0 where
  pub within : (n : ℕ) → In n order → n < length buckets
  pub all : (n : ℕ) → n < length buckets → In n order
  pub rising : AllApart (λ a b. IsBefore (bucket_at buckets a) (bucket_at buckets b)) order

-- ---- numbers

-- What is published of a bucket.
abbrev pub count_of : List Call → ℕ → Count
count_of calls n = record { allocs = published_allocs n calls; frees = published_frees n calls }

-- Two counts are the same.
abbrev pub is_same_count : Count → Count → Bool
is_same_count a b = a.allocs == b.allocs && a.frees == b.frees

-- No published number of so many buckets is too large for 64 bits.
abbrev pub AreFew : ℕ → List Call → Type 0
AreFew buckets calls = (n : ℕ) → n < buckets → (published_allocs n calls < 2 ^ 64) × (published_frees n calls < 2 ^ 64)

-- ---- lines

-- The line of a bucket and a mark end.
abbrev pub line_of : List Bucket → ℕ → ℕ → Count → Prof
line_of buckets mark n now = record { mark = mark; stack = (bucket_at buckets n).stack; size = (bucket_at buckets n).slot; allocs = now.allocs; frees = now.frees }

-- The lines of all buckets with allocations.
abbrev pub all_lines : List Bucket → List Call → ℕ → List ℕ → List Prof
all_lines buckets calls mark [] = []
all_lines buckets calls mark (n ∷ order) =
    if nat_lt 0 (published_allocs n calls) then line_of buckets mark n (count_of calls n) ∷ all_lines buckets calls mark order else all_lines buckets calls mark order

-- The lines of the buckets whose numbers are others than before, where these stand in the same order.
abbrev pub changed_lines : List Bucket → List Call → ℕ → List ℕ → List Count → List Prof
changed_lines buckets calls mark [] before = []
changed_lines buckets calls mark (n ∷ order) [] = []
changed_lines buckets calls mark (n ∷ order) (was ∷ before) =
    if is_same_count was (count_of calls n) then changed_lines buckets calls mark order before else line_of buckets mark n (count_of calls n) ∷ changed_lines buckets calls mark order before
