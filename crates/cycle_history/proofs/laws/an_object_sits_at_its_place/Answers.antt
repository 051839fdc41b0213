use Rattle.cycle_history.proofs.OfObjects.{sits-one}
use Rattle.cycle_history.proofs.laws.an_object_sits_at_its_place.Goals as goal

pub returns : goal.returns
returns c = sits-one
