use Rattle.sample_laws.proofs.Parted.{all-counted}
use Rattle.sample_laws.proofs.laws.processors_count_a_cycle.Goals as goal

pub returns : goal.returns
returns c = all-counted
