use Rattle.std.proofs.Common.{refl, ap, ℕ, ◌+◌, arith}
use Rattle.std.specs.Prelude.{Some, None}
use Rattle.std.proofs.lemmas.Result.{err_from_is_err_and}
use Rattle.span_set.specs.Sets.{unswept_of}
use Rattle.span_set.proofs.Tallies.{frees-both, frees-none}
use Rattle.sweeper.proofs.Again.{stays_works}
use Rattle.sweeper.proofs.Paying.{frees-swept, set_empty, set_less, set_more, set_reached, set_wants, so_far, sweeps_none}
use Rattle.sweeper.proofs.payments.sweep_entries.Goals as goal

pub loop-init : goal.loop-init
loop-init g c = record {
  did = let h = c.args.hand.now in sweeps_none (unswept_of h.worker.view.generation c.args.set) h c.requires.unpopped;
  tally = frees-none c.args.shop.now.marks.now c.args.hand.now c.args.hand.now refl refl;
}

pub returns-in_err-reserve_note-clause-did : goal.returns-in_err-reserve_note-clause-did
returns-in_err-reserve_note-clause-did g c = let h = c.args.hand.now in let e = c.in_err-reserve_note.ensures in
    let p = err_from_is_err_and c.from_residual.result c.from_residual.ensures.1 in
    rw p.1 (set_wants (unswept_of h.worker.view.generation c.args.set) h c.loop.counter c.loop.hand c.loop.invariant.did c.reserve_note.new.self e.worker e.notes)

pub returns-in_default-clause-did : goal.returns-in_default-clause-did
returns-in_default-clause-did g c = let h = c.args.hand.now in let e = c.in_ok-reserve_note.ensures in let k = unswept_of h.worker.view.generation c.args.set in
    set_empty k h c.loop.counter c.loop.hand c.loop.invariant.did c.reserve_note.new.self e.worker e.notes c.sweep_next.new.hand _
    (ap (λ (g : ℕ). unswept_of g c.args.set) (so_far k h c.loop.counter c.loop.hand c.loop.invariant.did c.reserve_note.new.self e.worker e.notes).does.stays.generation) c.args.target c.in_default.ensures.did

pub returns-in-Some-reached-clause-did : goal.returns-in-Some-reached-clause-did
returns-in-Some-reached-clause-did g c = let h = c.args.hand.now in let e = c.in_ok-reserve_note.ensures in let k = unswept_of h.worker.view.generation c.args.set in let i = c.loop.invariant.did in let r = c.reserve_note.new.self in
    set_reached k h (c.loop.counter + 1) c.sweep_next.new.hand
    (set_more k h c.loop.counter c.loop.hand i r e.worker e.notes c.sweep_next.new.hand _ (ap (λ (g : ℕ). unswept_of g c.args.set) (so_far k h c.loop.counter c.loop.hand i r e.worker e.notes).does.stays.generation) _ c.in-Some.ensures.did)
    c.args.target c.reached.new.hand c.in-Some-reached.seen c.in-Some-reached.ensures.did

pub loop-preserved : goal.loop-preserved
loop-preserved g c = let h = c.args.hand.now in let e = c.in_ok-reserve_note.ensures in let k = unswept_of h.worker.view.generation c.args.set in let i = c.loop.invariant.did in let r = c.reserve_note.new.self in let m = c.args.shop.now.marks.now in record {
  did = set_less k h (c.loop.counter + 1) c.sweep_next.new.hand
      (set_more k h c.loop.counter c.loop.hand i r e.worker e.notes c.sweep_next.new.hand _ (ap (λ (g : ℕ). unswept_of g c.args.set) (so_far k h c.loop.counter c.loop.hand i r e.worker e.notes).does.stays.generation) _ c.in-Some.ensures.did)
      c.args.target c.reached.new.hand c.in_default-reached.ensures.did;
  tally = frees-swept m h c.loop.hand r c.sweep_next.new.hand c.reached.new.hand c.args.target None c.loop.invariant.tally e.notes e.tally c.sweep_next.ensures.tally c.in_default-reached.ensures.did;
}

pub returns-in-Some-reached-clause-tally : goal.returns-in-Some-reached-clause-tally
returns-in-Some-reached-clause-tally g c = let e = c.in_ok-reserve_note.ensures in
    frees-swept c.args.shop.now.marks.now c.args.hand.now c.loop.hand c.reserve_note.new.self c.sweep_next.new.hand c.reached.new.hand c.args.target (Some c.in-Some-reached.seen) c.loop.invariant.tally e.notes e.tally c.sweep_next.ensures.tally c.in-Some-reached.ensures.did

pub returns-in_default-clause-tally : goal.returns-in_default-clause-tally
returns-in_default-clause-tally g c = let e = c.in_ok-reserve_note.ensures in let m = c.args.shop.now.marks.now in let h = c.args.hand.now in
    frees-both m h c.reserve_note.new.self c.sweep_next.new.hand (frees-both m h c.loop.hand c.reserve_note.new.self c.loop.invariant.tally (frees-none m c.loop.hand c.reserve_note.new.self e.notes e.tally)) c.sweep_next.ensures.tally

pub sweep_next-requires-clause-works : goal.sweep_next-requires-clause-works
sweep_next-requires-clause-works g c = let h = c.args.hand.now in let m = c.args.shop.now.marks.now in let e = c.in_ok-reserve_note.ensures in
    let far = so_far (unswept_of h.worker.view.generation c.args.set) h c.loop.counter c.loop.hand c.loop.invariant.did c.reserve_note.new.self e.worker e.notes in
    stays_works c.args.shop.now.shared.now c.args.shop.now.ring.now m h c.reserve_note.new.self far.does.stays
    (frees-both m h c.loop.hand c.reserve_note.new.self c.loop.invariant.tally (frees-none m c.loop.hand c.reserve_note.new.self e.notes e.tally)) c.requires.works

pub unreachable-requires : goal.unreachable-requires
unreachable-requires g c = let a = c.loop.invariant.did.few in let e = c.loop-test.false in omega arith
