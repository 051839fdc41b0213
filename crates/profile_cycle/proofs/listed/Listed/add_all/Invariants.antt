use Rattle.std.proofs.Common.{◌≡◌, ℕ, ◌<◌, get_or}
use Rattle.profile_cycle.specs.Listing.{Adds}
use Rattle.profile_cycle.proofs.listed.Listed.add_all.Given as goal

abbrev pub invariant-loop-bucket : goal.invariant-loop-bucket
invariant-loop-bucket l = Adds l.initial.self.all l.initial.self.buckets.items l.self.all l.self.buckets.items (λ b. (k : ℕ) × (k < l.bucket-index) × (get_or l.other.buckets.items k 0 ≡ b))
