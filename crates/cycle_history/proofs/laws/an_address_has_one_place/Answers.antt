use Rattle.cycle_history.proofs.OnePlace.{place-one}
use Rattle.cycle_history.proofs.laws.an_address_has_one_place.Goals as goal

pub returns : goal.returns
returns c = place-one
