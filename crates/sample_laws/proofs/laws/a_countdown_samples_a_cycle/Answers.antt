use Rattle.sample_laws.proofs.Sampled.{cycle-sampled}
use Rattle.sample_laws.proofs.laws.a_countdown_samples_a_cycle.Goals as goal

pub returns : goal.returns
returns c = cycle-sampled
