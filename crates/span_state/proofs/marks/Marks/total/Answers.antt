use Rattle.span_state.proofs.Added.{rising-pairs_of}
use Rattle.span_state.proofs.marks.Marks.total.Goals as goal

pub returns-in-None-clause-rising : goal.returns-in-None-clause-rising
returns-in-None-clause-rising c = rw (← c.self.view_is) (rising-pairs_of c.self.inside.rows)

pub returns-clause-rising : goal.returns-clause-rising
returns-clause-rising c = rw (← c.self.view_is) (rising-pairs_of c.self.inside.rows)
