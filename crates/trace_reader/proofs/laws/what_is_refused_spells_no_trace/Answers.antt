use Rattle.trace_reader.proofs.Complete.{refused_spells_nothing}
use Rattle.trace_reader.proofs.laws.what_is_refused_spells_no_trace.Goals as goal

pub returns : goal.returns
returns c = refused_spells_nothing
