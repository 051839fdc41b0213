use Rattle.std.proofs.Common.{◌≡◌, ◌+◌, Bool, List, length, get_or, subst, sym, ◌∙◌, arith, ap, Some, inl, inr}
use Rattle.std.specs.List.{slice_get}
use Rattle.std.proofs.lemmas.Bool.{cases_Bool}
use Rattle.std.proofs.lemmas.Option.{slice_get-get_or}
use Rattle.profile_cycle.specs.Sampling.{Countdown}
use Rattle.cycle_history.specs.Objects.{is_placed}
use Rattle.report_check.proofs.Clearing.{placed-item}
use Rattle.report_check.proofs.Flagging.{IsFlagged, flagged-other, flagged-placed}
use Rattle.report_check.proofs.Ledgers.{written}
use Rattle.report_check.proofs.sampled.flags_of.Goals as goal

pub take_sample-requires : goal.take_sample-requires
take_sample-requires c = record {
  proc = λ placed. (
      let at = slice_get-get_or c.args.objects.now.items.now c.loop-item.item-index _ c.loop-item-test.true in
      let p = (placed-item c.args.objects.now.trace.now c.args.objects.now.report.now c.args.objects.now.items.now c.args.objects.now.lasts.now c.loop-item.item-index _ c.requires.known at placed).proc in
      let n = c.loop-item.invariant.procs in
      let e = ap (λ (xs : List Countdown). length xs) c.as_mut_slice.ensures.value in
      omega arith);
}

pub loop-item-preserved : goal.loop-item-preserved
loop-item-preserved c =
    let t = c.args.objects.now.trace.now in
    let items = c.args.objects.now.items.now in
    let n = c.loop-item.item-index in
    let at = slice_get-get_or items n _ c.loop-item-test.true in
    let value = c.as_mut_slice.ensures.value in
    let s = c.take_sample.ensures in
    let old = c.loop-item.samplers.items in
    let size : length c.take_sample.new.samplers ≡ length old = s.size ∙ ap (λ (xs : List Countdown). length xs) value in
    let long : length c.take_sample.new.samplers ≡ c.loop-item.samplers.len = s.size ∙ c.as_mut_slice.ensures.len in
    let same = written c.loop-item.samplers.len c.take_sample.new.samplers old long in
    subst (λ (xs : List Countdown). IsFlagged t items (n + 1) xs c.push.new.self.items) (sym same)
    (subst (λ (xs : List Bool). IsFlagged t items (n + 1) c.take_sample.new.samplers xs) (sym c.in_ok-push.ensures.items)
    (elim (cases_Bool (is_placed (get_or items n _).answer)) [
      | inl on ↦ (
          let item = get_or items n _ in
          let p = (placed-item t c.args.objects.now.report.now items c.args.objects.now.lasts.now n _ c.requires.known at on).proc in
          let procs = c.loop-item.invariant.procs in
          let here : slice_get old item.proc ≡ Some (get_or old item.proc none) = slice_get-get_or old item.proc none (omega arith) in
          let r = s.placed (get_or old item.proc none) on (subst (λ (xs : List Countdown). slice_get xs item.proc ≡ Some (get_or old item.proc none)) (sym value) here) in
          flagged-placed t items n item (get_or old item.proc none) old c.take_sample.new.samplers c.loop-item.flags.items c.take_sample.result at on here r.0 size r.1
          (λ q other. subst (λ (xs : List Countdown). slice_get c.take_sample.new.samplers q ≡ slice_get xs q) value (s.others q other)) c.loop-item.invariant)
      | inr off ↦ (
          let r = s.other off in
          flagged-other t items n _ old c.take_sample.new.samplers c.loop-item.flags.items c.take_sample.result at off r.0 (r.1 ∙ value) c.loop-item.invariant)
    ]))
  where
    none : Countdown
    none = record { rate = 0; left = 0; words = Rattle.profile_cycle.specs.Sampling.words_of 0 0 }
