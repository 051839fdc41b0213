use Rattle.std.proofs.Common.{◌≡◌, length}
use Rattle.profile_readers_tests.proofs.tests.see_all.Given as goal

abbrev pub invariant-loop : goal.invariant-loop
invariant-loop g l = length l.into ≡ g.B.Board.buckets
