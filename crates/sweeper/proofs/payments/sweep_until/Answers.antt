use Rattle.std.proofs.Common.{refl, ap, ◌∙◌, ℕ, arith}
use Rattle.std.specs.Prelude.{Ok, Some, None}
use Rattle.std.proofs.lemmas.Result.{err_from_is_err_and}
use Rattle.span_laws.specs.Scans.{nth_unswept}
use Rattle.span_set.proofs.Asks.{moved_works}
use Rattle.span_set.proofs.Tallies.{frees-as, frees-both}
use Rattle.sweeper.specs.PaySteps.{SweepsUntil}
use Rattle.sweeper.proofs.Again.{stays_works}
use Rattle.sweeper.proofs.Paying.{read_frees, until_more, until_none, until_past, until_read, until_reached, until_to, until_wants}
use Rattle.sweeper.proofs.payments.sweep_until.Goals as goal

pub returns-in-Some-clause-did : goal.returns-in-Some-clause-did
returns-in-Some-clause-did g c = until_read c.args.hand.now c.args.target c.reached.new.hand c.in-Some.seen c.requires.unpopped c.in-Some.ensures.did

pub returns-in-Some-clause-tally : goal.returns-in-Some-clause-tally
returns-in-Some-clause-tally g c = read_frees c.args.shop.now.marks.now c.args.target c.args.hand.now c.reached.new.hand (Some c.in-Some.seen) c.in-Some.ensures.did

pub loop-index-init : goal.loop-index-init
loop-index-init g c = let h = c.args.hand.now in record {
  did = until_none h c.args.target c.reached.new.hand c.requires.unpopped c.in_default.ensures.did;
  few = omega arith;
  tally = read_frees c.args.shop.now.marks.now c.args.target h c.reached.new.hand None c.in_default.ensures.did;
}

pub sweep_entries-requires-clause-works : goal.sweep_entries-requires-clause-works
sweep_entries-requires-clause-works g c = let l = c.loop-index in
    moved_works c.args.shop.now.shared.now c.args.shop.now.ring.now c.args.shop.now.marks.now l.hand c.next_unswept.new.w _ c.in-Some-next_unswept.ensures.4.3 refl refl refl
    (stays_works c.args.shop.now.shared.now c.args.shop.now.ring.now c.args.shop.now.marks.now c.args.hand.now l.hand l.invariant.did.does.stays l.invariant.tally c.requires.works)

pub loop-index-preserved : goal.loop-index-preserved
loop-index-preserved g c = let h = c.args.hand.now in let l = c.loop-index in let w = c.next_unswept.new.w in let i = c.in-Some-next_unswept.index in
    let d : SweepsUntil i c.args.target h (record l.hand { worker = w }) (Ok None) = until_to h c.args.target l.next l.hand l.invariant.did w i c.in-Some-next_unswept.ensures in record {
      did = until_more h c.args.target i (record l.hand { worker = w }) c.sweep_entries.new.hand d _ (c.set_at.ensures.number w.view.generation ∙ ap (λ (g : ℕ). nth_unswept g i) d.does.stays.generation) (rw c.in_default-2.is at c.in_ok-seen.ensures.did);
      few = (let x = c.in-Some-next_unswept.ensures.3 in omega arith);
      tally = frees-both c.args.shop.now.marks.now h l.hand c.sweep_entries.new.hand l.invariant.tally (frees-as c.args.shop.now.marks.now (record l.hand { worker = w }) c.sweep_entries.new.hand l.hand c.sweep_entries.new.hand c.sweep_entries.ensures.tally refl refl refl refl);
    }

pub returns-in-Some-2-clause-did : goal.returns-in-Some-2-clause-did
returns-in-Some-2-clause-did g c = let h = c.args.hand.now in let l = c.loop-index in let w = c.next_unswept.new.w in let i = c.in-Some-next_unswept.index in
    let d : SweepsUntil i c.args.target h (record l.hand { worker = w }) (Ok None) = until_to h c.args.target l.next l.hand l.invariant.did w i c.in-Some-next_unswept.ensures in
    until_reached h c.args.target i (record l.hand { worker = w }) c.sweep_entries.new.hand d _ (c.set_at.ensures.number w.view.generation ∙ ap (λ (g : ℕ). nth_unswept g i) d.does.stays.generation) 272 c.in-Some-2.seen (rw c.in-Some-2.is at c.in_ok-seen.ensures.did)

pub returns-in_err-seen-clause-did : goal.returns-in_err-seen-clause-did
returns-in_err-seen-clause-did g c = let h = c.args.hand.now in let l = c.loop-index in let w = c.next_unswept.new.w in let i = c.in-Some-next_unswept.index in
    let d : SweepsUntil i c.args.target h (record l.hand { worker = w }) (Ok None) = until_to h c.args.target l.next l.hand l.invariant.did w i c.in-Some-next_unswept.ensures in
    let p = err_from_is_err_and c.from_residual.result c.from_residual.ensures.1 in
    rw p.1 (until_wants h c.args.target i (record l.hand { worker = w }) c.sweep_entries.new.hand d _ (c.set_at.ensures.number w.view.generation ∙ ap (λ (g : ℕ). nth_unswept g i) d.does.stays.generation) 272 _ c.in_err-seen.ensures.did)

pub returns-clause-did : goal.returns-clause-did
returns-clause-did g c = until_past c.args.hand.now c.args.target c.loop-index.next c.loop-index.hand c.loop-index.invariant.did c.next_unswept.new.w c.in_default-next_unswept.ensures

pub returns-in_err-seen-clause-tally : goal.returns-in_err-seen-clause-tally
returns-in_err-seen-clause-tally g c = let l = c.loop-index in let w = c.next_unswept.new.w in
    frees-both c.args.shop.now.marks.now c.args.hand.now l.hand c.sweep_entries.new.hand l.invariant.tally (frees-as c.args.shop.now.marks.now (record l.hand { worker = w }) c.sweep_entries.new.hand l.hand c.sweep_entries.new.hand c.sweep_entries.ensures.tally refl refl refl refl)

pub returns-in-Some-2-clause-tally : goal.returns-in-Some-2-clause-tally
returns-in-Some-2-clause-tally g c = let l = c.loop-index in let w = c.next_unswept.new.w in
    frees-both c.args.shop.now.marks.now c.args.hand.now l.hand c.sweep_entries.new.hand l.invariant.tally (frees-as c.args.shop.now.marks.now (record l.hand { worker = w }) c.sweep_entries.new.hand l.hand c.sweep_entries.new.hand c.sweep_entries.ensures.tally refl refl refl refl)
