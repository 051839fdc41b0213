use Rattle.std.proofs.Common.{List, ℕ, ap, sym, ◌∙◌}
use Rattle.std.proofs.lemmas.Result.{on_err_weaker}
use Rattle.std.specs.Option.{option_copied_mut}
use Rattle.span_state.specs.Groups.{pairs_of}
use Rattle.span_state.proofs.Added.{deaths-same}
use Rattle.span_state.proofs.marks.Marks.add_dead.Goals as goal

pub returns-in-Some-clause-err : goal.returns-in-Some-clause-err
returns-in-Some-clause-err c =
    on_err_weaker c.push.result (λ same.
    ap (λ (deaths : List (ℕ × List ℕ)). record { pairs = pairs_of c.self.inside.rows; deaths = deaths })
    (deaths-same _ c.self.inside.dead.entries _ c.in-Some.buckets.now c.push.new.self (c.get_mut.follows.holds c.push.new.self).0 same
    (sym c.get_mut.ensures.value ∙ ap option_copied_mut c.in-Some.is))
    ∙ c.self.view_is) c.push.ensures.err
