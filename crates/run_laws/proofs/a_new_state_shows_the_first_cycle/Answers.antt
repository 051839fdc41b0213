use Rattle.run_laws.proofs.Start.{new-shows}
use Rattle.run_laws.proofs.a_new_state_shows_the_first_cycle.Goals as goal

pub returns : goal.returns
returns c = new-shows
