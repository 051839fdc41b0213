use Rattle.run_laws_tests.proofs.TwoWorkers.{began1, facts1, reached1}
use Rattle.run_laws_tests.proofs.two_workers_reach_the_end.Goals as goal

pub returns-clause-began : goal.returns-clause-began
returns-clause-began c = began1

pub returns-clause-facts : goal.returns-clause-facts
returns-clause-facts c = facts1

pub returns-clause-reached : goal.returns-clause-reached
returns-clause-reached c = reached1
