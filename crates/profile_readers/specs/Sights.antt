-- What a watcher keeps of the profiles that it sees.
use Rattle.std.specs.Prelude.{◌≡◌, ℕ, ◌<◌, ◌≤◌, ◌^◌, Bool, List, [], ◌∷◌, length, take, Option, Some, None}
use Rattle.std.specs.List.{sum_by}
use Rattle.profile_cycle.specs.declared.counts.Count.{Count}
use Rattle.profile_readers.specs.declared.viewer.Sight.{Sight}
use Rattle.profile_readers.specs.History.{profile_after}

-- A watcher that keeps sights: the publishes that it knows of, the oldest first, the sights that it kept, and whether one found no memory.
pub record Viewing : Type 0 where
  pub publishes : List (List Count)
  pub sights : List Sight
  pub refused : Bool

-- The allocations and the frees of a bucket.
abbrev pub allocs_of : Count → ℕ
allocs_of c = c.allocs

abbrev pub frees_of : Count → ℕ
frees_of c = c.frees

-- A sight has the sums of the profile after its number of publishes, which are the first of these, if the sums have 64 bits.
pub record IsSight (buckets : ℕ) (publishes : List (List Count)) (s : Sight) : Type 0 where
  pub past : s.k ≤ length publishes
  pub allocs : sum_by allocs_of (profile_after buckets (take s.k publishes)) < 2 ^ 64 → s.allocs ≡ sum_by allocs_of (profile_after buckets (take s.k publishes))
  pub frees : sum_by frees_of (profile_after buckets (take s.k publishes)) < 2 ^ 64 → s.frees ≡ sum_by frees_of (profile_after buckets (take s.k publishes))

-- So has each of these.
abbrev pub AreSights : ℕ → List (List Count) → List Sight → Type 0
AreSights buckets publishes [] = Unit {0}
AreSights buckets publishes (s ∷ sights) = IsSight buckets publishes s × AreSights buckets publishes sights

-- The numbers of the sights strictly rise, and the last is n.
abbrev pub RiseTo : ℕ → List Sight → Type 0
RiseTo n [] = ⊥
RiseTo n (s ∷ []) = s.k ≡ n
RiseTo n (s ∷ t ∷ sights) = (s.k < t.k) × RiseTo n (t ∷ sights)

-- The number of the last sight, where there is one.
abbrev pub IsNewest : Option ℕ → List Sight → Type 0
IsNewest None sights = sights ≡ []
IsNewest (Some n) sights = RiseTo n sights

-- A number is greater than that of the last sight, if there is one.
abbrev pub IsNewer : Option ℕ → ℕ → Type 0
IsNewer None k = Unit {0}
IsNewer (Some n) k = n < k

-- There is a last sight, and its number is at least k.
abbrev pub HasReached : ℕ → Option ℕ → Type 0
HasReached k None = ⊥
HasReached k (Some n) = k ≤ n
