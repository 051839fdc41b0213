use Rattle.std.proofs.Common.{◌≡◌, refl, true, false, ap, sym, subst, ◌∙◌, get_or, set, arith}
use Rattle.std.specs.Prelude.{None, Some, Option}
use Rattle.sweep_laws.specs.Lists.{has}
use Rattle.span_state.specs.declared.body.Body.{Body}
use Rattle.span_laws.specs.Asks.{HasBody}
use Rattle.span_laws.specs.Views.{Seen, span_of}
use Rattle.proc_cache.specs.Cache.{Cache, spans_of}
use Rattle.proc_cache.proofs.Slots.{none_is, other_default, slot_is, slot_written}
use Rattle.proc_cache.proofs.Flushing.{class_empty, class_flushed, class_serves}
use Rattle.span_set.proofs.Asks.{works_still}
use Rattle.span_set.proofs.Tallies.{frees-both, frees-none}
use Rattle.proc_cache.proofs.flushes.flush_class.Goals as goal

pub flush_span-requires-clause-class : goal.flush_span-requires-clause-class
flush_span-requires-clause-class g c =
    let i = c.proc.inside in let k = c.args.class in let b = c.in-Some.body in
    let e : get_or i.slots.items k None ≡ Some b = other_default i.slots.items k None c.index_mut.result.now (let z = c.proc.invariant in let y = c.requires.class in omega arith) ∙ sym c.index_mut.ensures.value ∙ sym c.take.ensures.value ∙ c.in-Some.is in
    let x = c.requires.serves.slots k (span_of b) (slot_is i.number i.flushed i.slots.items i.sampler c.args.proc.now c.proc.view_is k (Some b) e) in
    let y = x.class in let z = c.requires.class in omega arith

pub flush_span-requires-clause-cached : goal.flush_span-requires-clause-cached
flush_span-requires-clause-cached g c =
    let i = c.proc.inside in let k = c.args.class in let b = c.in-Some.body in
    let e : get_or i.slots.items k None ≡ Some b = other_default i.slots.items k None c.index_mut.result.now (let z = c.proc.invariant in let y = c.requires.class in omega arith) ∙ sym c.index_mut.ensures.value ∙ sym c.take.ensures.value ∙ c.in-Some.is in
    subst (λ (w : Seen). has b.page w.view.own.cached ≡ true) (sym c.reserve_note.ensures.worker) (c.requires.serves.slots k (span_of b) (slot_is i.number i.flushed i.slots.items i.sampler c.args.proc.now c.proc.view_is k (Some b) e)).cached

pub flush_span-requires-clause-stale : goal.flush_span-requires-clause-stale
flush_span-requires-clause-stale g c =
    let i = c.proc.inside in let k = c.args.class in let b = c.in-Some.body in
    let e : get_or i.slots.items k None ≡ Some b = other_default i.slots.items k None c.index_mut.result.now (let z = c.proc.invariant in let y = c.requires.class in omega arith) ∙ sym c.index_mut.ensures.value ∙ sym c.take.ensures.value ∙ c.in-Some.is in
    subst (λ (w : Seen). has b.page w.view.own.fresh ≡ false) (sym c.reserve_note.ensures.worker)
    (c.requires.serves.fresh b.page (c.requires.serves.slots k (span_of b) (slot_is i.number i.flushed i.slots.items i.sampler c.args.proc.now c.proc.view_is k (Some b) e)).cached ∙ c.requires.stale)

pub flush_span-requires-clause-lent : goal.flush_span-requires-clause-lent
flush_span-requires-clause-lent g c =
    let i = c.proc.inside in let k = c.args.class in let b = c.in-Some.body in
    let e : get_or i.slots.items k None ≡ Some b = other_default i.slots.items k None c.index_mut.result.now (let z = c.proc.invariant in let y = c.requires.class in omega arith) ∙ sym c.index_mut.ensures.value ∙ sym c.take.ensures.value ∙ c.in-Some.is in
    subst (λ (w : Seen). HasBody w.view.own b) (sym c.reserve_note.ensures.worker) (c.requires.serves.slots k (span_of b) (slot_is i.number i.flushed i.slots.items i.sampler c.args.proc.now c.proc.view_is k (Some b) e)).lent

pub returns-clause-flushes : goal.returns-clause-flushes
returns-clause-flushes g c =
    let i = c.proc.inside in let k = c.args.class in let b = c.in-Some.body in let old = c.args.hand.now in let new = c.flush_span.new.hand in
    let e : get_or i.slots.items k None ≡ Some b = other_default i.slots.items k None c.index_mut.result.now (let z = c.proc.invariant in let y = c.requires.class in omega arith) ∙ sym c.index_mut.ensures.value ∙ sym c.take.ensures.value ∙ c.in-Some.is in
    let at = slot_is i.number i.flushed i.slots.items i.sampler c.args.proc.now c.proc.view_is k (Some b) e in
    let now : Cache = record { number = i.number; flushed = i.flushed; slots = spans_of (set i.slots.items k c.take.new.self); countdown = i.sampler } in
    let written : now ≡ Rattle.proc_cache.specs.Cache.with_slot k None c.args.proc.now = ap (λ (o : Option Body). let z : Cache = record { number = i.number; flushed = i.flushed; slots = spans_of (set i.slots.items k o); countdown = i.sampler } in z) c.take.ensures.after
    ∙ slot_written i.number i.flushed i.slots.items i.sampler c.args.proc.now c.proc.view_is k None in
    (ap (λ (z : Cache). z.flushed) c.proc.view_is, class_flushed k (span_of b) c.args.proc.now now old c.reserve_note.new.self new (c.requires.serves.slots k (span_of b) at).cached c.reserve_note.ensures.worker c.reserve_note.ensures.notes c.flush_span.ensures.flushes written at)

pub returns-clause-serves : goal.returns-clause-serves
returns-clause-serves g c =
    let i = c.proc.inside in let k = c.args.class in let b = c.in-Some.body in let old = c.args.hand.now in let new = c.flush_span.new.hand in
    let e : get_or i.slots.items k None ≡ Some b = other_default i.slots.items k None c.index_mut.result.now (let z = c.proc.invariant in let y = c.requires.class in omega arith) ∙ sym c.index_mut.ensures.value ∙ sym c.take.ensures.value ∙ c.in-Some.is in
    let at = slot_is i.number i.flushed i.slots.items i.sampler c.args.proc.now c.proc.view_is k (Some b) e in
    let now : Cache = record { number = i.number; flushed = i.flushed; slots = spans_of (set i.slots.items k c.take.new.self); countdown = i.sampler } in
    let written : now ≡ Rattle.proc_cache.specs.Cache.with_slot k None c.args.proc.now = ap (λ (o : Option Body). let z : Cache = record { number = i.number; flushed = i.flushed; slots = spans_of (set i.slots.items k o); countdown = i.sampler } in z) c.take.ensures.after
    ∙ slot_written i.number i.flushed i.slots.items i.sampler c.args.proc.now c.proc.view_is k None in
    class_serves k (span_of b) c.args.proc.now now old c.reserve_note.new.self new c.requires.serves at c.reserve_note.ensures.worker c.flush_span.ensures.flushes written

pub flush_span-requires-clause-works : goal.flush_span-requires-clause-works
flush_span-requires-clause-works g c = let e = c.reserve_note.ensures in
    works_still c.args.shop.now.shared.now c.args.shop.now.ring.now c.args.shop.now.marks.now c.args.hand.now c.reserve_note.new.self
    (ap (λ (w : Seen). w.table) e.worker) (ap (λ (w : Seen). w.away) e.worker) (ap (λ (w : Seen). w.view.marks) e.worker)
    (frees-none c.args.shop.now.marks.now c.args.hand.now c.reserve_note.new.self e.notes e.tally) c.requires.works

pub returns-in_err-reserve_note-clause-tally : goal.returns-in_err-reserve_note-clause-tally
returns-in_err-reserve_note-clause-tally g c = frees-none c.args.shop.now.marks.now c.args.hand.now c.reserve_note.new.self c.reserve_note.ensures.notes c.reserve_note.ensures.tally

pub returns-clause-countdown : goal.returns-clause-countdown
returns-clause-countdown g c = ap (λ (z : Cache). z.countdown) c.proc.view_is

pub returns-clause-tally : goal.returns-clause-tally
returns-clause-tally g c = frees-both c.args.shop.now.marks.now c.args.hand.now c.reserve_note.new.self c.flush_span.new.hand (frees-none c.args.shop.now.marks.now c.args.hand.now c.reserve_note.new.self c.reserve_note.ensures.notes c.reserve_note.ensures.tally) c.flush_span.ensures.tally

pub returns-then-is_none-clause-flushes : goal.returns-then-is_none-clause-flushes
returns-then-is_none-clause-flushes g c =
    let i = c.proc.inside in let k = c.args.class in
    let e : get_or i.slots.items k None ≡ None = other_default i.slots.items k None c.index.result.now (let z = c.proc.invariant in let y = c.requires.class in omega arith) ∙ sym c.index.ensures ∙ none_is c.index.result.now c.is_none.result c.is_none.ensures c.if-is_none.true in
    (refl, class_empty k c.args.proc.now c.args.hand.now c.requires.idle (slot_is i.number i.flushed i.slots.items i.sampler c.args.proc.now c.proc.view_is k None e))
