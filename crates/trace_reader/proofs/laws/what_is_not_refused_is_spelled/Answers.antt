use Rattle.trace_reader.proofs.Spelled.{unrefused_spells}
use Rattle.trace_reader.proofs.laws.what_is_not_refused_is_spelled.Goals as goal

pub returns : goal.returns
returns c = unrefused_spells
