use Rattle.std.proofs.Common.{◌≡◌, Some, sym, ◌∙◌, subst, arith, inl, inr}
use Rattle.std.specs.List.{slice_get}
use Rattle.std.proofs.lemmas.Bool.{cases_eq}
use Rattle.std.proofs.lemmas.Option.{slice_get-get_or}
use Rattle.span_state.specs.declared.sweep.SweepNote.{SweepNote}
use Rattle.report_check.specs.SaidSweeps.{SaysRight}
use Rattle.report_check.proofs.sweeps.right_from.Goals as goal

some-same : {x y : SweepNote} → Some x ≡ Some y → x ≡ y
some-same h = cc

pub loop-place-preserved : goal.loop-place-preserved
loop-place-preserved c k note low high at = elim (cases_eq k c.loop-place.place) [
  | inr other ↦ c.loop-place.invariant k note low (omega arith) at
  | inl same ↦ (
      let of = c.if-not-is_of.ensures in
      let here = slice_get-get_or c.args.sweeps.now c.loop-place.place _ (let a = of.0 in let b = c.requires.end in omega arith) in
      let there = subst (λ (i : _). slice_get c.args.sweeps.now i ≡ Some note) same at in
      let e = some-same (sym here ∙ there) in
      let f = some-same (sym of.1.1 ∙ there) in
      (subst (λ (x : SweepNote). x.cycle ≡ c.args.cycle) f of.1.2, subst (λ (x : SweepNote). SaysRight c.args.ledger.now x) e c.if-not-is_right.ensures))
]
