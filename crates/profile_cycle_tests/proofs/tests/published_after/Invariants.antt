use Rattle.std.proofs.Common.{◌≡◌, true}
use Rattle.profile_cycle_tests.proofs.tests.published_after.Given as goal

abbrev pub invariant-loop-call : goal.invariant-loop-call
invariant-loop-call l = (l.tally.ring ≡ l.ring) × (l.ring.buckets ≡ 1) × (l.tally.view.drives ≡ true) × (l.tally.view.out ≡ 0)
