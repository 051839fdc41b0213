use Rattle.std.proofs.Common.{refl, ap, ◌∙◌, arith}
use Rattle.span_laws.specs.TakeAnswers.{cycle_at}
use Rattle.span_laws.specs.Views.{Seen, span_of}
use Rattle.span_table_tests.proofs.Driving.{cached_free, may_place, own_idle}
use Rattle.span_table_tests.proofs.next_cycle.cached.Goals as goal

pub note_alloc-requires-clause-place : goal.note_alloc-requires-clause-place
note_alloc-requires-clause-place g c = may_place c.args.shared.now c.args.w.now c.requires.free c.requires.none (cycle_at c.args.w.now.view.generation) c.in-Ok.body c.take_span.new.w c.mark_cached.new.w c.in-Ok.ensures.view c.mark_cached.ensures

pub note_alloc-requires-clause-free : goal.note_alloc-requires-clause-free
note_alloc-requires-clause-free g c = record { inside = (let s = c.in-Ok.body.some_object in omega arith); free = c.in-Ok.ensures.is_new.empty 0; lowest = λ j l. absurd (omega arith) }

pub returns-clause-free : goal.returns-clause-free
returns-clause-free g c = (cached_free c.args.shared.now c.args.w.now c.requires.free c.requires.none (cycle_at c.args.w.now.view.generation) c.in-Ok.body.page (span_of c.in-Ok.body) (span_of c.note_alloc.new.body) c.take_span.new.w c.mark_cached.new.w c.note_alloc.new.w
    c.in-Ok.ensures.view c.mark_cached.ensures c.note_alloc.ensures.view refl c.note_alloc.ensures.same.page).0

pub returns-clause-generation : goal.returns-clause-generation
returns-clause-generation g c = (cached_free c.args.shared.now c.args.w.now c.requires.free c.requires.none (cycle_at c.args.w.now.view.generation) c.in-Ok.body.page (span_of c.in-Ok.body) (span_of c.note_alloc.new.body) c.take_span.new.w c.mark_cached.new.w c.note_alloc.new.w
    c.in-Ok.ensures.view c.mark_cached.ensures c.note_alloc.ensures.view refl c.note_alloc.ensures.same.page).1

pub mark_cached-requires-clause-unclaimed : goal.mark_cached-requires-clause-unclaimed
mark_cached-requires-clause-unclaimed g c = let o = own_idle c.args.shared.now c.args.w.now c.requires.free in ap (λ (x : Seen). x.view.own.claimed) c.in-Ok.ensures.view ∙ o.claimed
