use Rattle.swept_set_laws.proofs.Start.{new_names}
use Rattle.swept_set_laws.proofs.a_new_state_names_nothing.Goals as goal

pub returns : goal.returns
returns c = new_names
