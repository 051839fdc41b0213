use Rattle.trace_reader.proofs.Complete.{spelled_passes}
use Rattle.trace_reader.proofs.laws.what_is_spelled_is_not_refused.Goals as goal

pub returns : goal.returns
returns c = spelled_passes
