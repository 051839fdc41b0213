use Rattle.std.proofs.Common.{◌∙◌, ◌++◌, ap, inl}
use Rattle.span_laws.specs.declared.view.View.{View}
use Rattle.proc_cache.specs.Serves.{Serves}
use Rattle.heap_run.specs.Turns.{HasActed, IsCaching, SaysNone}
use Rattle.profile_cycle.specs.History.{Standing}
use Rattle.heap_run.proofs.Counting.{counts-may, counts-turn, frees-counts, out-cycle, out-may, out-split}
use Rattle.heap_run.proofs.Acted.{HandsOut, back-caching, brought-back, flush-acted, hands-out, ok-map, out-caching, out-idle, turn-back}
use Rattle.heap_run.proofs.Working.{out-works}
use Rattle.heap_run.proofs.turns.flush_processor.Goals as goal

pub flush-requires-clause-idle : goal.flush-requires-clause-idle
flush-requires-clause-idle g c =
    let o : HandsOut c.args.proc.now.number c.args.driver.now c.in_ok-hand.hand = hands-out c.args.proc.now.number _ c.args.driver.now c.in_ok-hand.hand c.requires.driver c.requires.parts c.requires.number (c.number.ensures) c.in_ok-hand.ensures.hand in
    out-idle c.args.proc.now.number c.args.driver.now c.in_ok-hand.hand o c.requires.idle

pub flush-requires-clause-serves : goal.flush-requires-clause-serves
flush-requires-clause-serves g c =
    let o : HandsOut c.args.proc.now.number c.args.driver.now c.in_ok-hand.hand = hands-out c.args.proc.now.number _ c.args.driver.now c.in_ok-hand.hand c.requires.driver c.requires.parts c.requires.number (c.number.ensures) c.in_ok-hand.ensures.hand in
    (out-caching c.args.proc.now.number c.args.driver.now c.in_ok-hand.hand c.args.proc.now o c.requires.caching).serves

pub flush-requires-clause-works : goal.flush-requires-clause-works
flush-requires-clause-works g c =
    let o : HandsOut c.args.proc.now.number c.args.driver.now c.in_ok-hand.hand = hands-out c.args.proc.now.number _ c.args.driver.now c.in_ok-hand.hand c.requires.driver c.requires.parts c.requires.number (c.number.ensures) c.in_ok-hand.ensures.hand in
    out-works c.args.shop.now.shared.now c.args.shop.now.ring.now c.args.shop.now.marks.now c.args.proc.now.number _ c.args.driver.now c.in_ok-hand.hand o c.in_ok-hand.ensures.hand c.requires.works

pub bring_back-requires-clause-ring : goal.bring_back-requires-clause-ring
bring_back-requires-clause-ring g c = ap (λ (s : Standing). s.ring) c.in_ok-hand.ensures.tally ∙ c.requires.works.counts.ring

pub bring_back-requires-clause-drives : goal.bring_back-requires-clause-drives
bring_back-requires-clause-drives g c = ap (λ (s : Standing). s.view.drives) c.in_ok-hand.ensures.tally ∙ c.requires.drives

pub bring_back-requires-clause-of_ring : goal.bring_back-requires-clause-of_ring
bring_back-requires-clause-of_ring g c =
    (counts-may c.args.shop.now.ring.now c.args.shop.now.marks.now _ c.in_ok-hand.hand c.flush.new.hand
    (out-may c.args.shop.now.ring.now c.args.shop.now.marks.now _ c.args.driver.now c.in_ok-hand.hand c.requires.works.counts c.in_ok-hand.ensures.hand) (frees-counts c.args.shop.now.marks.now c.in_ok-hand.hand c.flush.new.hand c.in_ok-flush.ensures.tally)).ring

pub bring_back-requires-clause-split : goal.bring_back-requires-clause-split
bring_back-requires-clause-split g c = out-split c.args.shop.now.marks.now _ _ c.args.driver.now c.in_ok-hand.hand c.flush.new.hand c.in_ok-hand.ensures.hand (frees-counts c.args.shop.now.marks.now c.in_ok-hand.hand c.flush.new.hand c.in_ok-flush.ensures.tally)

pub bring_back-requires-clause-cycle : goal.bring_back-requires-clause-cycle
bring_back-requires-clause-cycle g c = out-cycle c.args.shop.now.marks.now _ _ c.args.driver.now c.send_out.new.driver c.in_ok-hand.hand c.flush.new.hand c.in_ok-hand.ensures.hand c.in_ok-hand.ensures.tally (frees-counts c.args.shop.now.marks.now c.in_ok-hand.hand c.flush.new.hand c.in_ok-flush.ensures.tally)

pub bring_back-requires-clause-settled : goal.bring_back-requires-clause-settled
bring_back-requires-clause-settled g c = inl (c.in_ok-flush.ensures.flushes.1.leaves.caching ∙ c.in_ok-hand.ensures.caching)

pub returns-clause-turn : goal.returns-clause-turn
returns-clause-turn g c =
    let o : HandsOut c.args.proc.now.number c.args.driver.now c.in_ok-hand.hand = hands-out c.args.proc.now.number _ c.args.driver.now c.in_ok-hand.hand c.requires.driver c.requires.parts c.requires.number (c.number.ensures) c.in_ok-hand.ensures.hand in
    let acted : HasActed SaysNone c.in_ok-hand.hand c.flush.new.hand = flush-acted _ _ _ _ _ c.in_ok-flush.ensures.flushes.1 in
    ok-map c.bring_back.result _ _ (λ notes. turn-back SaysNone c.args.proc.now.number c.args.driver.now c.in_ok-hand.hand c.flush.new.hand c.bring_back.new.driver o acted (brought-back c.args.proc.now.number _ c.args.driver.now.worker c.send_out.new.driver.worker c.flush.new.hand.worker c.bring_back.new.driver.worker (c.number.ensures) c.in_ok-hand.ensures.away c.bring_back.ensures.worker)
    (notes ∙ ap (λ n. n.items ++ c.flush.new.hand.notes.items) c.in_ok-hand.ensures.notes)) c.bring_back.ensures.notes

pub returns-clause-caching : goal.returns-clause-caching
returns-clause-caching g c =
    let o : HandsOut c.args.proc.now.number c.args.driver.now c.in_ok-hand.hand = hands-out c.args.proc.now.number _ c.args.driver.now c.in_ok-hand.hand c.requires.driver c.requires.parts c.requires.number (c.number.ensures) c.in_ok-hand.ensures.hand in
    let acted : HasActed SaysNone c.in_ok-hand.hand c.flush.new.hand = flush-acted _ _ _ _ _ c.in_ok-flush.ensures.flushes.1 in
    let old = out-caching c.args.proc.now.number c.args.driver.now c.in_ok-hand.hand c.args.proc.now o c.requires.caching in
    let serves : Serves c.in_ok-hand.hand.worker.view.generation c.flush.new.hand.worker.view.own c.flush.new.proc = rw (ap (λ (v : View). v.generation) acted.view) at c.in_ok-flush.ensures.serves in
    let caching : IsCaching c.in_ok-hand.hand.worker.view.generation c.flush.new.hand.worker.view.own c.flush.new.proc = record { serves = serves; used = c.in_ok-flush.ensures.used old.used } in
    ok-map c.bring_back.result _ _ (λ notes. back-caching SaysNone c.args.proc.now.number c.args.driver.now c.in_ok-hand.hand c.flush.new.hand c.bring_back.new.driver c.flush.new.proc o acted (brought-back c.args.proc.now.number _ c.args.driver.now.worker c.send_out.new.driver.worker c.flush.new.hand.worker c.bring_back.new.driver.worker (c.number.ensures) c.in_ok-hand.ensures.away c.bring_back.ensures.worker) caching) c.bring_back.ensures.notes

pub returns-clause-counts : goal.returns-clause-counts
returns-clause-counts g c =
    ok-map c.bring_back.result _ _ (λ notes. counts-turn c.args.shop.now.marks.now _ _ c.args.driver.now c.send_out.new.driver c.in_ok-hand.hand c.flush.new.hand c.bring_back.new.driver c.in_ok-hand.ensures.hand c.in_ok-hand.ensures.notes c.in_ok-hand.ensures.tally
    (frees-counts c.args.shop.now.marks.now c.in_ok-hand.hand c.flush.new.hand c.in_ok-flush.ensures.tally) notes c.bring_back.ensures.tally) c.bring_back.ensures.notes
