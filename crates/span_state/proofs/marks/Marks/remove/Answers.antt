use Rattle.std.proofs.Common.{ℕ, not, ◌==◌, ◌&&◌, ◌∙◌, ap}
use Rattle.span_state.specs.MarkSet.{MarkSet, is_marked}
use Rattle.span_state.proofs.Added.{has-cleared, rising-pairs_of}
use Rattle.span_state.proofs.marks.Marks.remove.Goals as goal

pub returns-clause-marked : goal.returns-clause-marked
returns-clause-marked c = λ q k.
    has-cleared c.self.inside.rows c.clear.new.self c.args.page c.args.index c.clear.ensures.clear q k
    ∙ ap (λ (m : MarkSet). is_marked m q k && not (q == c.args.page && k == c.args.index)) c.self.view_is

pub returns-clause-rising : goal.returns-clause-rising
returns-clause-rising c = rising-pairs_of c.clear.new.self
