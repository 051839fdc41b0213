use Rattle.std.proofs.Common.{refl, ◌≡◌, ◌∙◌, arith}
use Rattle.std.proofs.lemmas.Result.{err_from_is_err_and}
use Rattle.span_set.proofs.Asks.{moved_works}
use Rattle.span_set.proofs.Tallies.{frees-as, frees-both, frees-none}
use Rattle.sweeper.specs.Reclaims.{chunks_of}
use Rattle.sweeper.proofs.Again.{stays_works}
use Rattle.sweeper.proofs.Covering.{chunks_none, reclaimed_all, reclaimed_enough, reclaimed_past, reclaims_more, reclaims_wants, rounded}
use Rattle.sweeper.proofs.reclaimer.reclaim.Goals as goal

pub loop-init : goal.loop-init
loop-init g c = record {
  did = chunks_none c.args.hand.now c.region-region.result c.args.pages c.region-region.ensures.region c.requires.unpopped;
  tally = frees-none c.args.shop.now.marks.now c.args.hand.now c.args.hand.now refl refl;
}

pub returns-clause-did : goal.returns-clause-did
returns-clause-did g c = let l = c.loop in let r = c.region-region in let n = c.div_ceil-chunks in
    let k : n.result ≡ chunks_of r.result = n.ensures ∙ rounded r.result in
    reclaimed_all c.args.hand.now r.result c.args.pages r.ensures.region l.counter l.given l.hand l.invariant.did (let a = l.auto.counter-end in omega arith) (let b = c.loop-test.false in omega arith)

pub returns-then-given-pages-clause-did : goal.returns-then-given-pages-clause-did
returns-then-given-pages-clause-did g c = let l = c.loop in let r = c.region-region in let n = c.div_ceil-chunks in
    let k : n.result ≡ chunks_of r.result = n.ensures ∙ rounded r.result in
    reclaimed_enough c.args.hand.now r.result c.args.pages r.ensures.region l.counter l.given l.hand l.invariant.did (let a = l.auto.counter-end in omega arith) c.if-given-pages.true

pub returns-then-chunk-from-clause-did : goal.returns-then-chunk-from-clause-did
returns-then-chunk-from-clause-did g c = let l = c.loop in let r = c.region-region in let n = c.div_ceil-chunks in let m = c.claim_chunk-chunk in
    let k : n.result ≡ chunks_of r.result = n.ensures ∙ rounded r.result in
    reclaimed_past c.args.hand.now r.result c.args.pages r.ensures.region l.counter l.given l.hand l.invariant.did (let a = l.auto.counter-end in omega arith) m.result m.new.w m.ensures (let f = c.from.ensures in let t = c.if-chunk-from.true in omega arith) (let t = c.loop-test.true in omega arith)

pub returns-in_err-reclaim_chunk-clause-did : goal.returns-in_err-reclaim_chunk-clause-did
returns-in_err-reclaim_chunk-clause-did g c = let l = c.loop in let r = c.region-region in let n = c.div_ceil-chunks in let m = c.claim_chunk-chunk in
    let k : n.result ≡ chunks_of r.result = n.ensures ∙ rounded r.result in let p = err_from_is_err_and c.from_residual.result c.from_residual.ensures.1 in
    rw p.1 (reclaims_wants c.args.hand.now r.result c.args.pages r.ensures.region l.counter l.given l.hand l.invariant.did (let a = l.auto.counter-end in omega arith) m.result m.new.w m.ensures c.reclaim_chunk.new.hand p.0 (let t = c.loop-test.true in omega arith) c.in_err-reclaim_chunk.ensures.did)

pub loop-preserved : goal.loop-preserved
loop-preserved g c = record {
  did = let l = c.loop in let r = c.region-region in let n = c.div_ceil-chunks in let m = c.claim_chunk-chunk in
      let k : n.result ≡ chunks_of r.result = n.ensures ∙ rounded r.result in
      reclaims_more c.args.hand.now r.result c.args.pages r.ensures.region l.counter l.given l.hand l.invariant.did (let a = l.auto.counter-end in omega arith) m.result m.new.w m.ensures c.reclaim_chunk.new.hand c.in_ok-reclaim_chunk.field-0 c.saturating_add-given.result c.saturating_add-given.ensures c.in_ok-reclaim_chunk.ensures.did;
  tally = frees-both c.args.shop.now.marks.now c.args.hand.now c.loop.hand c.reclaim_chunk.new.hand c.loop.invariant.tally (frees-as c.args.shop.now.marks.now (record c.loop.hand { worker = c.claim_chunk-chunk.new.w }) c.reclaim_chunk.new.hand c.loop.hand c.reclaim_chunk.new.hand c.reclaim_chunk.ensures.tally refl refl refl refl);
}

pub reclaim_chunk-requires-clause-works : goal.reclaim_chunk-requires-clause-works
reclaim_chunk-requires-clause-works g c = let l = c.loop in let m = c.claim_chunk-chunk in
    moved_works c.args.shop.now.shared.now c.args.shop.now.ring.now c.args.shop.now.marks.now l.hand m.new.w _ m.ensures refl refl refl
    (stays_works c.args.shop.now.shared.now c.args.shop.now.ring.now c.args.shop.now.marks.now c.args.hand.now l.hand l.invariant.did.does.stays l.invariant.tally c.requires.works)

pub returns-in_err-reclaim_chunk-clause-tally : goal.returns-in_err-reclaim_chunk-clause-tally
returns-in_err-reclaim_chunk-clause-tally g c = frees-both c.args.shop.now.marks.now c.args.hand.now c.loop.hand c.reclaim_chunk.new.hand c.loop.invariant.tally
    (frees-as c.args.shop.now.marks.now (record c.loop.hand { worker = c.claim_chunk-chunk.new.w }) c.reclaim_chunk.new.hand c.loop.hand c.reclaim_chunk.new.hand c.reclaim_chunk.ensures.tally refl refl refl refl)
