use Rattle.std.proofs.Common.{◌≡◌, ℕ, ◌≤◌, Bool, true, false, is_some, List, length, get_or, Option, None, Some, sym, ◌∙◌, ap, subst, arith, inl, inr}
use Rattle.std.proofs.lemmas.Bool.{cases_eq, cases_lt}
use Rattle.std.proofs.lemmas.List.{get_or_past}
use Rattle.report_check.specs.declared.lives.OpenLife.{OpenLife}
use Rattle.report_check.proofs.Righting.{on-true}
use Rattle.report_check.proofs.unswept.all_noted.Goals.{else-is_some-via-then-is_some+else-not-has, else-is_some-via-else-is_some}
use Rattle.report_check.proofs.unswept.all_noted.Goals as goal

none-some : (b : Bool) (entry : Option OpenLife) (life : OpenLife) → b ≡ is_some entry → b ≡ false → entry ≡ Some life → ⊥
none-some b entry life e off is = (let f : is_some entry ≡ true = ap (λ (o : Option OpenLife). is_some o) is in cc)

past : (lives : List (Option OpenLife)) (page : ℕ) (life : OpenLife) → length lives ≤ page → get_or lives page None ≡ Some life → ⊥
past lives page life le is = (let e = get_or_past lives page None le in let f : None ≡ Some life = sym e ∙ is in cc)

pub loop-page-preserved : goal.loop-page-preserved
loop-page-preserved c sweeps are page life lt here = elim (cases_eq page c.loop-page.page) [
  | inr other ↦ c.loop-page.invariant sweeps are page life (omega arith) here
  | inl same ↦ elim c.else-is_some.branch [
    | else-is_some-via-then-is_some+else-not-has w ↦ (
        let has = on-true _ _ _ w.if-not-has.false (w.has.ensures false sweeps are) in
        (has.0, has.1, has.2, has.3 ∙ sym same, tt))
    | else-is_some-via-else-is_some w ↦ absurd (none-some _ _ life c.is_some.ensures w.if-is_some.false (subst (λ (p : ℕ). get_or c.args.lives.now p None ≡ Some life) same here))
  ]
]

pub returns : goal.returns
returns c sweeps are page life here = elim (cases_lt page c.loop-page.page) [
  | inl lt ↦ c.loop-page.invariant sweeps are page life lt here
  | inr ge ↦ absurd (past c.args.lives.now page life (let f = c.loop-page-test.false in omega arith) here)
]
