use Rattle.std.proofs.Common.{[], ℕ, ◌*◌, subst, arith}
use Rattle.std.proofs.lemmas.Result.{err_from_is_err_and}
use Rattle.span_set.proofs.Tallies.{frees-both, frees-none}
use Rattle.std.specs.Prelude.{Ok, Some}
use Rattle.sweeper.specs.ReclaimSteps.{CoversPages, ReclaimsNext}
use Rattle.sweeper.specs.Work.{HandSweeps}
use Rattle.sweeper.proofs.Again.{stays_works}
use Rattle.sweeper.proofs.Covering.{chunk_done, chunk_more, chunk_none, chunk_stops, chunk_wants}
use Rattle.sweeper.proofs.reclaimer.reclaim_chunk.Goals as goal

pub returns-in_err-reserve_note-clause-did : goal.returns-in_err-reserve_note-clause-did
returns-in_err-reserve_note-clause-did g c = let f = c.from_residual in let e = c.in_err-reserve_note.ensures in let p = err_from_is_err_and f.result f.ensures.1 in
    rw p.1 (chunk_stops c.args.hand.now (512 * c.args.chunk) c.requires.unpopped c.reserve_note.new.self _ c.args.chunk e.worker e.notes)

pub returns-in_err-reserve_note-clause-tally : goal.returns-in_err-reserve_note-clause-tally
returns-in_err-reserve_note-clause-tally g c = let e = c.in_err-reserve_note.ensures in frees-none c.args.shop.now.marks.now c.args.hand.now c.reserve_note.new.self e.notes e.tally

pub loop-behind-init : goal.loop-behind-init
loop-behind-init g c = let e = c.in_ok-reserve_note.ensures in record {
  did = chunk_none c.args.hand.now (512 * c.args.chunk) c.requires.unpopped c.reserve_note.new.self e.worker e.notes;
  before = (let m = c.min-end.ensures in let k = c.requires.chunk in omega arith);
  room = e.room;
  tally = frees-none c.args.shop.now.marks.now c.args.hand.now c.reserve_note.new.self e.notes e.tally;
}

pub loop-behind-preserved : goal.loop-behind-preserved
loop-behind-preserved g c = let l = c.loop-behind in let d : ReclaimsNext l.next c.min-end.result l.hand c.reclaim_next.new.hand (Ok (Some (c.in-Some.behind, c.in-Some.pages))) = (rw c.in-Some.is at c.in_ok-behind.ensures.did) in record {
  did = chunk_more c.args.hand.now (512 * c.args.chunk) l.next l.given l.hand c.reclaim_next.new.hand l.invariant.did c.in-Some.behind c.in-Some.pages c.saturating_add-given.result c.saturating_add-given.ensures d.2;
  before = d.1;
  room = c.in_ok-behind.ensures.room;
  tally = frees-both c.args.shop.now.marks.now c.args.hand.now l.hand c.reclaim_next.new.hand l.invariant.tally c.reclaim_next.ensures.tally;
}

pub returns-in_err-behind-clause-did : goal.returns-in_err-behind-clause-did
returns-in_err-behind-clause-did g c = let l = c.loop-behind in let f = c.from_residual-in_err-behind in let p = err_from_is_err_and f.result f.ensures.1 in
    rw p.1 (chunk_wants c.args.hand.now (512 * c.args.chunk) l.next l.given l.hand c.reclaim_next.new.hand l.invariant.did _ c.args.chunk c.min-end.result c.in_err-behind.ensures.did)

pub returns-clause-did : goal.returns-clause-did
returns-clause-did g c = let l = c.loop-behind in let h = c.args.hand.now in
    subst (λ (n : ℕ). HandSweeps [] (CoversPages h.worker.view.marks (512 * c.args.chunk) n l.given) h c.reclaim_next.new.hand)
    (let m = c.min-end.ensures in let r = c.requires.region in omega arith)
    (chunk_done h (512 * c.args.chunk) l.next l.given l.hand c.reclaim_next.new.hand l.invariant.did c.min-end.result (rw c.in_default.is at c.in_ok-behind.ensures.did))

pub returns-clause-tally : goal.returns-clause-tally
returns-clause-tally g c = frees-both c.args.shop.now.marks.now c.args.hand.now c.loop-behind.hand c.reclaim_next.new.hand c.loop-behind.invariant.tally c.reclaim_next.ensures.tally

pub reclaim_next-requires-clause-works : goal.reclaim_next-requires-clause-works
reclaim_next-requires-clause-works g c = let i = c.loop-behind.invariant in stays_works c.args.shop.now.shared.now c.args.shop.now.ring.now c.args.shop.now.marks.now c.args.hand.now c.loop-behind.hand i.did.does.stays i.tally c.requires.works

pub returns-in_err-behind-clause-tally : goal.returns-in_err-behind-clause-tally
returns-in_err-behind-clause-tally g c = frees-both c.args.shop.now.marks.now c.args.hand.now c.loop-behind.hand c.reclaim_next.new.hand c.loop-behind.invariant.tally c.reclaim_next.ensures.tally
