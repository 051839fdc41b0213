use Rattle.std.proofs.Common.{◌≡◌, length}
use Rattle.profile_readers_tests.proofs.tests.publish_all.Given as goal

abbrev pub invariant-loop-number : goal.invariant-loop-number
invariant-loop-number g l = length l.publisher ≡ l.number
