use Rattle.trace_gen.proofs.Limits.{made_fits}
use Rattle.trace_gen.proofs.laws.a_made_trace_is_within_limits.Goals as goal

pub returns : goal.returns
returns c = made_fits
