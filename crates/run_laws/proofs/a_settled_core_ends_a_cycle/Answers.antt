use Rattle.run_laws.proofs.Turns.{shows-facts}
use Rattle.run_laws.proofs.a_settled_core_ends_a_cycle.Goals as goal

pub returns : goal.returns
returns c = shows-facts
