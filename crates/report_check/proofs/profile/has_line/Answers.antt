use Rattle.std.proofs.Common.{ℕ, MatchBool, subst}
use Rattle.page_alloc.specs.Lists.{In}
use Rattle.report_check.proofs.Showing.{match-same}
use Rattle.report_check.proofs.profile.has_line.Goals as goal

pub returns : goal.returns
returns c lines are = match-same _ _ c.has.result (are c.args.mark c.args.stack c.args.slot c.place_of.ensures.mark c.place_of.ensures.slot)
    (subst (λ (k : ℕ). MatchBool c.has.result (In k c.args.printed.now) (¬ In k c.args.printed.now)) c.place_of.ensures.place c.has.ensures)
