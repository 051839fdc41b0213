use Rattle.std.proofs.Common.{◌≡◌, ◌<◌, true}
use Rattle.bench.proofs.profile.freed.Given as goal

abbrev pub invariant-loop : goal.invariant-loop
invariant-loop l = (l.ring.buckets ≡ l.buckets) × (l.tally.ring ≡ l.ring) × (l.tally.view.drives ≡ true) × (l.tally.view.out ≡ 0) × (l.bucket < l.buckets)
