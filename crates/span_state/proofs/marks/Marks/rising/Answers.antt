use Rattle.span_state.proofs.Added.{rising-pairs_of}
use Rattle.span_state.proofs.marks.Marks.rising.Goals as goal

pub returns : goal.returns
returns c = rw (← c.self.view_is) (rising-pairs_of c.self.inside.rows)
