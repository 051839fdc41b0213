use Rattle.std.proofs.Common.{[], ap, refl, sym, subst, ◌∙◌, ◌<◌, ℕ, length, arith}
use Rattle.span_laws.specs.Scans.{nth_unswept}
use Rattle.span_set.proofs.Asks.{moved_works}
use Rattle.span_set.proofs.Tallies.{frees-as, frees-both, frees-none}
use Rattle.sweeper.specs.Tries.{SawSome, SweepsNone}
use Rattle.sweeper.specs.Work.{HandSweeps}
use Rattle.sweeper.proofs.Again.{stays_works}
use Rattle.sweeper.proofs.Counting.{none-append}
use Rattle.sweeper.proofs.Searching.{all_seen, finds_more, finds_none, looks_past, looks_to, one_swept}
use Rattle.sweeper.proofs.sweep.sweep_one.Goals as goal

pub loop-index-init : goal.loop-index-init
loop-index-init g c = record {
  did = let h = c.args.hand.now in let e = c.in_ok-reserve_note.ensures in record { works = finds_none h c.reserve_note.new.self e.worker e.notes c.requires.unpopped; room = e.room };
  few = omega arith;
  tally = let e = c.in_ok-reserve_note.ensures in frees-none c.args.shop.now.marks.now c.args.hand.now c.reserve_note.new.self e.notes e.tally;
}

pub returns-clause-did : goal.returns-clause-did
returns-clause-did g c = let h = c.args.hand.now in let l = c.loop-index in let w = c.next_unswept.new.w in
    all_seen h (record l.hand { worker = w }) (looks_past SweepsNone none-append h l.next l.hand l.invariant.did.works w c.in_default.ensures)

pub returns-in-Some-sweep_next-clause-did : goal.returns-in-Some-sweep_next-clause-did
returns-in-Some-sweep_next-clause-did g c = let h = c.args.hand.now in let l = c.loop-index in let w = c.next_unswept.new.w in let i = c.in-Some.index in
    let d : HandSweeps [] (λ said. SweepsNone said × SawSome h.worker.view.generation i said) h (record l.hand { worker = w }) = looks_to SweepsNone none-append h l.next l.hand l.invariant.did.works w i c.in-Some.ensures in
    one_swept h i (record l.hand { worker = w }) c.sweep_next.new.hand d _ (c.set_at.ensures.number w.view.generation ∙ ap (λ (g : ℕ). nth_unswept g i) d.does.stays.generation) c.in-Some-sweep_next.note c.in-Some-sweep_next.ensures.did

pub loop-index-preserved : goal.loop-index-preserved
loop-index-preserved g c = let h = c.args.hand.now in let l = c.loop-index in let w = c.next_unswept.new.w in let i = c.in-Some.index in let a = c.in_default-sweep_next.ensures.did in
    let d : HandSweeps [] (λ said. SweepsNone said × SawSome h.worker.view.generation i said) h (record l.hand { worker = w }) = looks_to SweepsNone none-append h l.next l.hand l.invariant.did.works w i c.in-Some.ensures in record {
      did = record {
        works = finds_more h i (record l.hand { worker = w }) c.sweep_next.new.hand d _ (c.set_at.ensures.number w.view.generation ∙ ap (λ (g : ℕ). nth_unswept g i) d.does.stays.generation) a;
        room = subst (λ n. length n.items < n.space) (sym a.1) l.invariant.did.room;
      };
      few = (let x = c.in-Some.ensures.3 in omega arith);
      tally = frees-both c.args.shop.now.marks.now h l.hand c.sweep_next.new.hand l.invariant.tally (frees-as c.args.shop.now.marks.now (record l.hand { worker = w }) c.sweep_next.new.hand l.hand c.sweep_next.new.hand c.sweep_next.ensures.tally refl refl refl refl);
    }

pub sweep_next-requires-clause-works : goal.sweep_next-requires-clause-works
sweep_next-requires-clause-works g c = let l = c.loop-index in
    moved_works c.args.shop.now.shared.now c.args.shop.now.ring.now c.args.shop.now.marks.now l.hand c.next_unswept.new.w _ c.in-Some.ensures.4.3 refl refl refl
    (stays_works c.args.shop.now.shared.now c.args.shop.now.ring.now c.args.shop.now.marks.now c.args.hand.now l.hand l.invariant.did.works.does.stays l.invariant.tally c.requires.works)
