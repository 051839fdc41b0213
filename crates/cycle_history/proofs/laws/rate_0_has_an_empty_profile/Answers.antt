use Rattle.cycle_history.proofs.Sampling.{empty-profile}
use Rattle.cycle_history.proofs.laws.rate_0_has_an_empty_profile.Goals as goal

pub returns : goal.returns
returns c = empty-profile
