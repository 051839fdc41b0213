use Rattle.trace_reader.proofs.Complete.{one_spelling}
use Rattle.trace_reader.proofs.laws.a_trace_has_one_spelling.Goals as goal

pub returns : goal.returns
returns c = one_spelling
