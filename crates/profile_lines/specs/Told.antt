-- What the lines tell that are read mark end by mark end.
use Rattle.std.specs.Prelude.{◌≡◌, ℕ, suc, ◌-◌, ◌<◌, ◌≤◌, List, map}
use Rattle.page_alloc.specs.Lists.{In}
use Rattle.profile_cycle.specs.declared.buckets.Bucket.{Bucket}
use Rattle.profile_cycle.specs.declared.counts.Count.{Count}
use Rattle.cycle_history.specs.declared.Prof.{Prof}
use Rattle.cycle_history.specs.Requests.{Marking}
use Rattle.cycle_history.specs.Objects.{Object}
use Rattle.cycle_history.specs.Orders.{AreRisingProfile}
use Rattle.cycle_history.specs.Profile.{Samples, allocs_at, frees_at, bucket_of, IsProf, IsChanged, IsOf}
use Rattle.profile_lines.specs.Read.{bucket_at}

-- The numbers of a bucket as of mark end m.
abbrev pub count_at : Marking → Samples → List Object → ℕ → Bucket → Count
count_at marked s objects m b = record { allocs = allocs_at s objects m b; frees = frees_at marked s objects m b }

-- The numbers of all buckets as of mark end m, in an order.
abbrev pub counts_at : Marking → Samples → List Object → ℕ → List Bucket → List ℕ → List Count
counts_at marked s objects m buckets order = map (λ n. count_at marked s objects m (bucket_at buckets n)) order

-- The lines are those of the mark ends below m, of the buckets whose numbers changed.
pub record AreLinesBelow (marked : Marking) (s : Samples) (m : ℕ) (objects : List Object) (lines : List Prof) : Type 0 where
  pub order : AreRisingProfile lines
  pub right : (line : Prof) → In line lines → (1 ≤ line.mark) × (line.mark < m) × IsProf marked s objects line
  pub changed : (k : ℕ) (line : Prof) → In line lines → line.mark ≡ suc k → IsChanged marked s objects k (bucket_of line)
  pub each : (k : ℕ) (b : Bucket) → suc k < m → IsChanged marked s objects k b → (line : Prof) × In line lines × IsOf (suc k) b line

-- The lines of the mark ends below m are told, and the numbers that were read last are those of the last of these mark ends.
pub record HasTold (marked : Marking) (s : Samples) (buckets : List Bucket) (order : List ℕ) (m : ℕ) (objects : List Object) (before : List Count) (lines : List Prof) : Type 0 where
  pub told : AreLinesBelow marked s m objects lines
  pub numbers : before ≡ counts_at marked s objects (m - 1) buckets order
