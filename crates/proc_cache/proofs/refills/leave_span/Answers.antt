use Rattle.std.proofs.Common.{◌≡◌, refl, ap, sym, subst, ◌∙◌, get_or, set, [], ◌∷◌, arith}
use Rattle.std.specs.Prelude.{None, Some, Option}
use Rattle.span_state.specs.declared.body.Body.{Body}
use Rattle.span_laws.specs.Views.{Seen, span_of}
use Rattle.worker_log.specs.SetNumbers.{swept_set}
use Rattle.worker_log.specs.declared.Entry.TheVariants.{Pushed, Read}
use Rattle.span_laws.specs.declared.view.Span.{Span}
use Rattle.proc_cache.specs.Cache.{Cache, spans_of, with_slot}
use Rattle.proc_cache.specs.RefillLogs.{HasLeft}
use Rattle.proc_cache.proofs.Filling.{full_leaves, full_serves, full_used}
use Rattle.proc_cache.proofs.Slots.{other_default, slot_is, slot_written}
use Rattle.proc_cache.proofs.refills.leave_span.Goals as goal

pub push_full-requires-clause-cached : goal.push_full-requires-clause-cached
push_full-requires-clause-cached c =
    let i = c.proc.inside in let k = c.args.class in let b = c.in-Some.body in
    let e : get_or i.slots.items k None ≡ Some b = other_default i.slots.items k None c.index_mut.result.now (let z = c.proc.invariant in let y = c.requires.class in omega arith) ∙ sym c.index_mut.ensures.value ∙ sym c.take.ensures.value ∙ c.in-Some.is in
    c.requires.serves.slots k (span_of b) (slot_is i.number i.flushed i.slots.items i.sampler c.args.proc.now c.proc.view_is k (Some b) e)

pub returns-clause-leaves : goal.returns-clause-leaves
returns-clause-leaves c =
    let i = c.proc.inside in let k = c.args.class in let b = c.in-Some.body in let old = c.args.hand.now in let new = c.push_full.new.hand in let g = old.worker.view.generation in
    let e : get_or i.slots.items k None ≡ Some b = other_default i.slots.items k None c.index_mut.result.now (let z = c.proc.invariant in let y = c.requires.class in omega arith) ∙ sym c.index_mut.ensures.value ∙ sym c.take.ensures.value ∙ c.in-Some.is in
    let at = slot_is i.number i.flushed i.slots.items i.sampler c.args.proc.now c.proc.view_is k (Some b) e in (
      ap (λ (o : Option Body). let z : Cache = record { number = i.number; flushed = i.flushed; slots = spans_of (set i.slots.items k o); countdown = i.sampler } in z) c.take.ensures.after ∙ slot_written i.number i.flushed i.slots.items i.sampler c.args.proc.now c.proc.view_is k None,
      c.push_full.ensures.notes,
      (Pushed (swept_set g k 1) b.page ∷ Read 1 g ∷ [], full_leaves k b.page (swept_set g k 1) g old new c.requires.idle c.push_full.ensures.view c.push_full.ensures.notes, subst (λ (o : Option Span). HasLeft g k o (Pushed (swept_set g k 1) b.page ∷ Read 1 g ∷ [])) (sym at) refl),
      ap (λ (w : Seen). w.view.own.spans) c.push_full.ensures.view,
    )

pub returns-clause-serves : goal.returns-clause-serves
returns-clause-serves c =
    let i = c.proc.inside in let k = c.args.class in let b = c.in-Some.body in let old = c.args.hand.now in let new = c.push_full.new.hand in let g = old.worker.view.generation in
    let e : get_or i.slots.items k None ≡ Some b = other_default i.slots.items k None c.index_mut.result.now (let z = c.proc.invariant in let y = c.requires.class in omega arith) ∙ sym c.index_mut.ensures.value ∙ sym c.take.ensures.value ∙ c.in-Some.is in
    let at = slot_is i.number i.flushed i.slots.items i.sampler c.args.proc.now c.proc.view_is k (Some b) e in
    let now : Cache = record { number = i.number; flushed = i.flushed; slots = spans_of (set i.slots.items k c.take.new.self); countdown = i.sampler } in
    let written : now ≡ with_slot k None c.args.proc.now = ap (λ (o : Option Body). let z : Cache = record { number = i.number; flushed = i.flushed; slots = spans_of (set i.slots.items k o); countdown = i.sampler } in z) c.take.ensures.after
    ∙ slot_written i.number i.flushed i.slots.items i.sampler c.args.proc.now c.proc.view_is k None in
    full_serves k b.page (swept_set g k 1) g old new c.requires.idle c.push_full.ensures.view c.push_full.ensures.notes c.args.proc.now now (span_of b) refl c.requires.serves at written

pub returns-clause-used : goal.returns-clause-used
returns-clause-used c =
    let i = c.proc.inside in let k = c.args.class in let b = c.in-Some.body in let old = c.args.hand.now in let new = c.push_full.new.hand in let g = old.worker.view.generation in
    let e : get_or i.slots.items k None ≡ Some b = other_default i.slots.items k None c.index_mut.result.now (let z = c.proc.invariant in let y = c.requires.class in omega arith) ∙ sym c.index_mut.ensures.value ∙ sym c.take.ensures.value ∙ c.in-Some.is in
    let at = slot_is i.number i.flushed i.slots.items i.sampler c.args.proc.now c.proc.view_is k (Some b) e in
    let now : Cache = record { number = i.number; flushed = i.flushed; slots = spans_of (set i.slots.items k c.take.new.self); countdown = i.sampler } in
    let written : now ≡ with_slot k None c.args.proc.now = ap (λ (o : Option Body). let z : Cache = record { number = i.number; flushed = i.flushed; slots = spans_of (set i.slots.items k o); countdown = i.sampler } in z) c.take.ensures.after
    ∙ slot_written i.number i.flushed i.slots.items i.sampler c.args.proc.now c.proc.view_is k None in
    full_used k b.page (swept_set g k 1) g old new c.requires.idle c.push_full.ensures.view c.push_full.ensures.notes c.args.proc.now now c.requires.serves
    (full_serves k b.page (swept_set g k 1) g old new c.requires.idle c.push_full.ensures.view c.push_full.ensures.notes c.args.proc.now now (span_of b) refl c.requires.serves at written) (span_of b) refl at written c.requires.used

pub returns-clause-countdown : goal.returns-clause-countdown
returns-clause-countdown c = ap (λ (z : Cache). z.countdown) c.proc.view_is
