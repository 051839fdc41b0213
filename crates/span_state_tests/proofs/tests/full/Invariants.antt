use Rattle.std.proofs.Common.{◌≡◌}
use Rattle.span_state_tests.proofs.tests.full.Given as goal

abbrev pub invariant-loop-want : goal.invariant-loop-want
invariant-loop-want g l = (l.body.page ≡ 7) × (l.body.count ≡ l.count)
