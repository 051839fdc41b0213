use Rattle.profile_cycle_tests.specs.Rows.{IsOut}
use Rattle.profile_cycle_tests.proofs.tests.count_many.Given as goal

abbrev pub invariant-loop : goal.invariant-loop
invariant-loop l = IsOut l.ring l.tally
