use Rattle.std.proofs.Common.{◌≤◌, List, Result, length, map, sym, ◌∙◌, ap, subst, arith, inl, inr}
use Rattle.report_check.specs.declared.fault.CheckFault.{CheckFault}
use Rattle.check_parallel.specs.declared.pieces.Verdict.{Verdict}
use Rattle.check_parallel.specs.Parts.{FaultOfApart, FaultOfFilling, IsApartJudged, IsFillingJudged, MeetsApart, MeetsFilling, FailsInTurn}
use Rattle.check_parallel.specs.Verdicts.{least}
use Rattle.check_parallel.proofs.Answering.{err-both, err-map, if-err, ok-map, when-ok}
use Rattle.check_parallel.proofs.Covering.{apart-joined, filling-joined}
use Rattle.check_parallel.proofs.pieces.judge_inside.Goals as goal

pub returns-in_err-least_apart : goal.returns-in_err-least_apart
returns-in_err-least_apart g c =
    let t = c.args.trace.now in
    let items = c.args.items.now in
    let verdicts = c.in_ok-verdicts.verdicts.items in
    let all = c.in_ok-verdicts.ensures.all in
    let more = c.args.pieces.some in
    let some : 1 ≤ length verdicts = omega arith in
    let joined = apart-joined t c.args.report.now items c.args.lasts.now verdicts c.requires.known some c.in_ok-verdicts.ensures.each in
    let is = c.least_apart.ensures ∙ ap (λ (vs : List Verdict). least (map (λ (v : Verdict). v.apart) vs)) c.deref-2.ensures.value in
    let said = subst (λ (r : Result (Unit {0}) CheckFault). IsApartJudged t items r) (sym is) joined in
    let fault = if-err c.least_apart.result c.in_err-least_apart.field-0.0 _ c.in_err-least_apart.was said.1 in
    err-both c.from_residual-in_err-least_apart.result c.in_err-least_apart.field-0.0 (MeetsApart t items × MeetsFilling t items) (FailsInTurn (FaultOfApart t items) (MeetsApart t items) (FaultOfFilling t items))
    c.from_residual-in_err-least_apart.ensures.1 (inl fault)

pub returns : goal.returns
returns g c =
    let t = c.args.trace.now in
    let items = c.args.items.now in
    let verdicts = c.in_ok-verdicts.verdicts.items in
    let all = c.in_ok-verdicts.ensures.all in
    let more = c.args.pieces.some in
    let some : 1 ≤ length verdicts = omega arith in
    let apart = apart-joined t c.args.report.now items c.args.lasts.now verdicts c.requires.known some c.in_ok-verdicts.ensures.each in
    let filling = filling-joined t c.args.report.now items c.args.lasts.now verdicts c.requires.known some c.in_ok-verdicts.ensures.each in
    let is = c.least_apart.ensures ∙ ap (λ (vs : List Verdict). least (map (λ (v : Verdict). v.apart) vs)) c.deref-2.ensures.value in
    let is' = c.least_filling.ensures ∙ ap (λ (vs : List Verdict). least (map (λ (v : Verdict). v.filling) vs)) c.deref-3.ensures.value in
    let said = subst (λ (r : Result (Unit {0}) CheckFault). IsApartJudged t items r) (sym is) apart in
    let told = subst (λ (r : Result (Unit {0}) CheckFault). IsFillingJudged t items r) (sym is') filling in
    let met = when-ok c.least_apart.result _ _ c.in_ok-least_apart.was said.0 in (
      ok-map c.least_filling.result _ _ (λ has. (met, has)) told.0,
      err-map c.least_filling.result _ _ (λ (fault : CheckFault) f. inr (met, f)) told.1,
    )
