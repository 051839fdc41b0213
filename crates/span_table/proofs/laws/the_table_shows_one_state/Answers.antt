use Rattle.span_table.proofs.Unique.{same_state}
use Rattle.span_table.proofs.laws.the_table_shows_one_state.Goals as goal

pub returns : goal.returns
returns c = same_state
