use Rattle.std.proofs.Common.{◌≡◌, ℕ, inl, inr, refl, ap, sym, subst, ◌∙◌, get_or, set, arith}
use Rattle.std.specs.Prelude.{None, Some}
use Rattle.span_laws.specs.declared.said.SaidOf.TheVariants.{Places}
use Rattle.span_laws.specs.Views.{Seen, span_of}
use Rattle.span_laws.specs.OwnSteps.{told_of}
use Rattle.proc_cache.specs.Cache.{Cache, address_of, spans_of}
use Rattle.proc_cache.specs.Hits.{IsPlacedIn}
use Rattle.proc_cache.specs.Serves.{Serves}
use Rattle.proc_cache.proofs.Serving.{may_place, serves_placed}
use Rattle.proc_cache.proofs.Slots.{other_default, slot_is, slot_kept, slot_written}
use Rattle.proc_cache.proofs.hits.alloc_hit.Goals as goal

pub returns-in_default-clause-hits : goal.returns-in_default-clause-hits
returns-in_default-clause-hits c =
    let i = c.proc.inside in let k = c.args.class in
    let e : get_or i.slots.items k None ≡ None = other_default i.slots.items k None c.index_mut.result.now (let z = c.proc.invariant in let y = c.requires.class in omega arith) ∙ sym c.index_mut.ensures.value ∙ c.in_default.is in
    let f : get_or i.slots.items k None ≡ c.index_mut.result.now = e ∙ sym c.in_default.is in
    (inl (slot_is i.number i.flushed i.slots.items i.sampler c.args.proc.now c.proc.view_is k None e), slot_kept i.number i.flushed i.slots.items i.sampler c.args.proc.now c.proc.view_is k c.index_mut.result.now f, refl)

pub returns-in_default-next_free-clause-hits : goal.returns-in_default-next_free-clause-hits
returns-in_default-next_free-clause-hits c =
    let i = c.proc.inside in let k = c.args.class in let b = c.in-Some.body in
    let e : get_or i.slots.items k None ≡ Some b = other_default i.slots.items k None c.index_mut.result.now (let z = c.proc.invariant in let y = c.requires.class in omega arith) ∙ sym c.index_mut.ensures.value ∙ c.in-Some.is in
    (inr (span_of b, slot_is i.number i.flushed i.slots.items i.sampler c.args.proc.now c.proc.view_is k (Some b) e, c.in_default-next_free.ensures), slot_kept i.number i.flushed i.slots.items i.sampler c.args.proc.now c.proc.view_is k (Some b) e, refl)

pub note_alloc-requires-clause-lent : goal.note_alloc-requires-clause-lent
note_alloc-requires-clause-lent c =
    let i = c.proc.inside in let k = c.args.class in let b = c.in-Some.body in
    let e : get_or i.slots.items k None ≡ Some b = other_default i.slots.items k None c.index_mut.result.now (let z = c.proc.invariant in let y = c.requires.class in omega arith) ∙ sym c.index_mut.ensures.value ∙ c.in-Some.is in
    (may_place c.args.w.now.view.generation c.args.w.now.view.own c.args.proc.now c.requires.serves c.requires.held c.requires.flushed k b (slot_is i.number i.flushed i.slots.items i.sampler c.args.proc.now c.proc.view_is k (Some b) e)).0

pub note_alloc-requires-clause-place : goal.note_alloc-requires-clause-place
note_alloc-requires-clause-place c =
    let i = c.proc.inside in let k = c.args.class in let b = c.in-Some.body in
    let e : get_or i.slots.items k None ≡ Some b = other_default i.slots.items k None c.index_mut.result.now (let z = c.proc.invariant in let y = c.requires.class in omega arith) ∙ sym c.index_mut.ensures.value ∙ c.in-Some.is in
    (may_place c.args.w.now.view.generation c.args.w.now.view.own c.args.proc.now c.requires.serves c.requires.held c.requires.flushed k b (slot_is i.number i.flushed i.slots.items i.sampler c.args.proc.now c.proc.view_is k (Some b) e)).1

pub returns-clause-hits : goal.returns-clause-hits
returns-clause-hits c =
    let i = c.proc.inside in let k = c.args.class in let b = c.in-Some.body in let d = c.note_alloc.new.body in let x = c.in-Some-next_free.index in
    let e : get_or i.slots.items k None ≡ Some b = other_default i.slots.items k None c.index_mut.result.now (let z = c.proc.invariant in let y = c.requires.class in omega arith) ∙ sym c.index_mut.ensures.value ∙ c.in-Some.is in
    record {
      before = span_of b;
      after = span_of d;
      index = x;
      cached = slot_is i.number i.flushed i.slots.items i.sampler c.args.proc.now c.proc.view_is k (Some b) e;
      lowest = c.in-Some-next_free.ensures;
      placed = let s = c.note_alloc.ensures.same in record { page = s.page; pages = s.pages; slot = s.slot; count = s.count; class = s.class; life = s.life; next = c.note_alloc.ensures.next; bits = c.note_alloc.ensures.body };
      address = c.address.ensures.address ∙ ap (λ (z : ℕ). address_of d.page z x) c.slot_size.ensures.size;
      cache = slot_written i.number i.flushed i.slots.items i.sampler c.args.proc.now c.proc.view_is k (Some d);
      worker = c.note_alloc.ensures.view;
    }

pub returns-clause-serves : goal.returns-clause-serves
returns-clause-serves c =
    let i = c.proc.inside in let k = c.args.class in let b = c.in-Some.body in let d = c.note_alloc.new.body in let x = c.in-Some-next_free.index in let w = c.args.w.now in
    let e : get_or i.slots.items k None ≡ Some b = other_default i.slots.items k None c.index_mut.result.now (let z = c.proc.invariant in let y = c.requires.class in omega arith) ∙ sym c.index_mut.ensures.value ∙ c.in-Some.is in
    let placed : IsPlacedIn x (span_of b) (span_of d) = (let s = c.note_alloc.ensures.same in record { page = s.page; pages = s.pages; slot = s.slot; count = s.count; class = s.class; life = s.life; next = c.note_alloc.ensures.next; bits = c.note_alloc.ensures.body }) in
    let kept = serves_placed w.view.generation w.view.own c.args.proc.now c.requires.serves k x (span_of b) (span_of d) (slot_is i.number i.flushed i.slots.items i.sampler c.args.proc.now c.proc.view_is k (Some b) e) placed in
    let now : Cache = record { number = i.number; flushed = i.flushed; slots = spans_of (set i.slots.items k (Some d)); countdown = i.sampler } in
    subst (λ (s : Seen). Serves s.view.generation s.view.own now) (sym c.note_alloc.ensures.view)
    (subst (λ (z : Cache). Serves w.view.generation (told_of (Places x) (span_of d) w.view.own) z) (sym (slot_written i.number i.flushed i.slots.items i.sampler c.args.proc.now c.proc.view_is k (Some d))) kept)

pub returns-in_default-clause-countdown : goal.returns-in_default-clause-countdown
returns-in_default-clause-countdown c = ap (λ (z : Cache). z.countdown) c.proc.view_is

pub returns-in_default-next_free-clause-countdown : goal.returns-in_default-next_free-clause-countdown
returns-in_default-next_free-clause-countdown c = ap (λ (z : Cache). z.countdown) c.proc.view_is

pub returns-clause-countdown : goal.returns-clause-countdown
returns-clause-countdown c = ap (λ (z : Cache). z.countdown) c.proc.view_is
