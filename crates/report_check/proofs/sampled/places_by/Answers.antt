use Rattle.std.proofs.Common.{◌+◌, List, ap, subst, sym, ◌∙◌, ℕ}
use Rattle.std.proofs.lemmas.Option.{slice_get-get_or}
use Rattle.report_check.proofs.Bucketing.{ArePlaced, placed-more, placed-skip}
use Rattle.report_check.proofs.sampled.places_by.Goals.{then-flags-number+in_ok-push, else-flags-number}
use Rattle.report_check.proofs.sampled.places_by.Goals as goal

pub loop-number-preserved : goal.loop-number-preserved
loop-number-preserved c =
    let at = slice_get-get_or c.args.items.now c.loop-number.number _ c.loop-number-test.true in
    let p = c.place_of-place.ensures in
    elim c.if-flags-number.branch [
      | then-flags-number+in_ok-push w ↦ subst (λ (xs : List ℕ). ArePlaced c.args.items.now c.args.flags.now c.args.stacks.now c.args.cycles.now (c.loop-number.number + 1) xs) (sym (ap (λ (v : _). v.items) w.places-is ∙ w.in_ok-push.ensures.items))
          (placed-more c.args.items.now c.args.flags.now c.args.stacks.now c.args.cycles.now c.loop-number.places.items c.loop-number.number c.place_of-place.result _ at w.if-flags-number.true p.place p.stack p.slot p.mark c.loop-number.invariant)
      | else-flags-number w ↦ subst (λ (xs : List ℕ). ArePlaced c.args.items.now c.args.flags.now c.args.stacks.now c.args.cycles.now (c.loop-number.number + 1) xs) (sym (ap (λ (v : _). v.items) w.places-is))
          (placed-skip c.args.items.now c.args.flags.now c.args.stacks.now c.args.cycles.now c.loop-number.places.items c.loop-number.number _ at w.if-flags-number.false p.stack p.slot p.mark c.loop-number.invariant)
    ]
