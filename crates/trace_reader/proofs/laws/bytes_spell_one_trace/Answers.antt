use Rattle.trace_reader.proofs.Complete.{one_spelled}
use Rattle.trace_reader.proofs.laws.bytes_spell_one_trace.Goals as goal

pub returns : goal.returns
returns c = one_spelled
