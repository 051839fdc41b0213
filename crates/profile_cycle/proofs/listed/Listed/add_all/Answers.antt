use Rattle.std.proofs.Common.{◌≡◌, ℕ, ◌≤◌, true, List, get_or, length, subst, arith, true≢false}
use Rattle.profile_cycle.specs.Listing.{Adds}
use Rattle.profile_cycle.proofs.Listing.{adds-one, adds-listed}
use Rattle.profile_cycle.proofs.listed.Listed.add_all.Goals as goal

pub loop-bucket-preserved : goal.loop-bucket-preserved
loop-bucket-preserved c =
    let i = c.loop-bucket.bucket-index in
    let now = subst (λ (xs : List ℕ). Adds c.loop-bucket.self.all c.loop-bucket.self.buckets.items c.add.new.self.all c.add.new.self.buckets.items (λ b. get_or xs i 0 ≡ b)) c.deref-bucket-items.ensures.value c.add.ensures in
    adds-one _ _ _ _ _ _ c.args.other.now.buckets.items i c.loop-bucket.invariant now

pub returns-then-other-clause-adds : goal.returns-then-other-clause-adds
returns-then-other-clause-adds c =
    let over : length c.args.other.now.buckets.items ≤ c.loop-bucket.bucket-index = omega arith in
    let under : c.loop-bucket.bucket-index ≤ length c.args.other.now.buckets.items = omega arith in
    adds-listed _ _ true _ _ c.args.other.now.buckets.items c.loop-bucket.bucket-index (λ e. absurd (true≢false e)) over under c.loop-bucket.invariant

pub returns-else-other-clause-adds : goal.returns-else-other-clause-adds
returns-else-other-clause-adds c =
    let over : length c.args.other.now.buckets.items ≤ c.loop-bucket.bucket-index = omega arith in
    let under : c.loop-bucket.bucket-index ≤ length c.args.other.now.buckets.items = omega arith in
    adds-listed _ _ _ _ _ c.args.other.now.buckets.items c.loop-bucket.bucket-index (λ e. e) over under c.loop-bucket.invariant
