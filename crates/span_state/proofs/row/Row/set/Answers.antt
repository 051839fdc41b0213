use Rattle.std.proofs.Common.{ℕ, ◌==◌, cond, List, get_or, ◌∙◌, ap, arith}
use Rattle.std.proofs.lemmas.Result.{on_ok_weaker, on_err_weaker}
use Rattle.span_state.proofs.RowWords.{put-far, same-far}
use Rattle.span_state.proofs.row.Row.set.Goals as goal

pub returns-clause-set : goal.returns-clause-set
returns-clause-set c =
    on_ok_weaker c.set_far.result
    (λ put g. put-far c.self.inside.near c.self.inside.far.items c.set_far.new.far.items c.args.group c.args.word c.self.invariant (omega arith) put g
    ∙ ap (λ (row : List ℕ). cond (g == c.args.group) c.args.word (get_or row g 0)) c.self.view_is)
    c.set_far.ensures.set

pub returns-clause-same : goal.returns-clause-same
returns-clause-same c =
    on_err_weaker c.set_far.result
    (λ same g. same-far c.self.inside.near c.self.inside.far.items c.set_far.new.far.items c.self.invariant same g ∙ ap (λ (row : List ℕ). get_or row g 0) c.self.view_is)
    c.set_far.ensures.same
