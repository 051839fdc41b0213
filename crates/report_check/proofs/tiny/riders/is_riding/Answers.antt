use Rattle.std.proofs.Common.{ℕ, ◌-◌, eqb, MatchBool, sym, ◌∙◌, subst}
use Rattle.report_check.specs.Versions.{IsRidingAt}
use Rattle.report_check.proofs.Riding.{decides-riding}
use Rattle.report_check.proofs.tiny.riders.is_riding.Goals as goal

pub returns : goal.returns
returns c =
    let answers = c.args.answers.now in
    let r = c.args.rider in
    let x = c.in-Some.start in
    let y = c.in-Some-address_at.own in
    subst (λ (offset : ℕ). MatchBool (eqb (y - x) offset) (IsRidingAt answers r.object r.lead r.offset) (¬ IsRidingAt answers r.object r.lead r.offset)) (sym c.from.ensures)
    (decides-riding answers r.object r.lead r.offset x y (sym c.address_at.ensures ∙ c.in-Some.is) (sym c.address_at-2.ensures ∙ c.in-Some-address_at.is) c.if-own-start.false)
