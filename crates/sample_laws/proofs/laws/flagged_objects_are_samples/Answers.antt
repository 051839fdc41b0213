use Rattle.sample_laws.proofs.Counting.{cycle-counts}
use Rattle.sample_laws.proofs.laws.flagged_objects_are_samples.Goals as goal

pub returns : goal.returns
returns c = cycle-counts
