use Rattle.std.proofs.Common.{◌≡◌, ℕ, true≢false, inr, refl, sym, ap, subst, ◌∙◌, arith}
use Rattle.span_state.specs.Spans.{allocated}
use Rattle.span_laws.specs.TakeAnswers.{cycle_at}
use Rattle.span_laws.specs.Views.{span_of}
use Rattle.span_laws.specs.OwnSteps.{after_said}
use Rattle.span_laws.specs.declared.said.Said.TheVariants.{Claims, Fills, Reads}
use Rattle.span_laws.proofs.Parts.{has_end_here}
use Rattle.span_table_tests.proofs.Driving.{own_idle, placed_free, untouched_pops}
use Rattle.span_table_tests.proofs.turns.place.Goals as goal

pub note_alloc-requires-clause-place : goal.note_alloc-requires-clause-place
note_alloc-requires-clause-place g c = let o = own_idle c.args.shared.now c.args.w.now c.requires.free in let t = c.in-Ok.ensures in
    rw t.view (inr (has_end_here c.in-Ok.body.page c.args.w.now.view.own.held, o.claimed, (t.is_new.large (omega arith)).0))

pub note_alloc-requires-clause-free : goal.note_alloc-requires-clause-free
note_alloc-requires-clause-free g c = record { inside = (let s = c.in-Ok.body.some_object in omega arith); free = c.in-Ok.ensures.is_new.empty 0; lowest = λ j l. absurd (omega arith) }

pub claim-claim-requires-clause-unclaimed : goal.claim-claim-requires-clause-unclaimed
claim-claim-requires-clause-unclaimed g c = let o = own_idle c.args.shared.now c.args.w.now c.requires.free in rw (c.note_alloc.ensures.view, c.in-Ok.ensures.view) o.claimed

pub claim-claim-requires-clause-may : goal.claim-claim-requires-clause-may
claim-claim-requires-clause-may g c = let t = c.in-Ok.ensures in let a = c.note_alloc.ensures in
    let count : c.note_alloc.new.body.count ≡ 1 = a.same.count ∙ (t.is_new.large (omega arith)).0 in record {
      class = a.same.class ∙ t.is_new.class;
      used = (0, (omega arith), a.body 0);
      full = λ e j l. (let z : j ≡ 0 = omega arith in ap (allocated c.note_alloc.new.body) z ∙ a.body 0);
      room = λ e. absurd (true≢false e);
      unpopped = untouched_pops c.args.w.now c.take_span.new.w c.note_alloc.new.w _ _ 0 _ t.view a.view c.in-Ok.body.page c.note_alloc.new.body.page a.same.page t.untouched;
      unplaced = λ e. absurd (true≢false e);
    }

pub returns-clause-free : goal.returns-clause-free
returns-clause-free g c = (placed_free c.args.shared.now c.args.w.now c.requires.free (cycle_at c.args.w.now.view.generation) c.claim-claim.result.set c.claim-claim.result.index c.note_alloc.new.body.page c.note_alloc.new.w.view.generation (span_of c.in-Ok.body) (span_of c.note_alloc.new.body)
    c.take_span.new.w c.note_alloc.new.w c.claim-claim.new.w c.fill.new.w c.in-Ok.ensures.view c.note_alloc.ensures.view
    (subst (λ (p : ℕ). c.claim-claim.new.w ≡ after_said (Claims c.claim-claim.result.set c.claim-claim.result.index p) (after_said (Reads 1 c.note_alloc.new.w.view.generation) c.note_alloc.new.w)) c.claim-claim.ensures.page c.claim-claim.ensures.view)
    (subst (λ (p : ℕ). c.fill.new.w ≡ after_said (Fills c.claim-claim.result.set p) c.claim-claim.new.w) c.claim-claim.ensures.page c.fill.ensures) (sym c.note_alloc.ensures.same.page) refl).0

pub returns-clause-others : goal.returns-clause-others
returns-clause-others g c = (placed_free c.args.shared.now c.args.w.now c.requires.free (cycle_at c.args.w.now.view.generation) c.claim-claim.result.set c.claim-claim.result.index c.note_alloc.new.body.page c.note_alloc.new.w.view.generation (span_of c.in-Ok.body) (span_of c.note_alloc.new.body)
    c.take_span.new.w c.note_alloc.new.w c.claim-claim.new.w c.fill.new.w c.in-Ok.ensures.view c.note_alloc.ensures.view
    (subst (λ (p : ℕ). c.claim-claim.new.w ≡ after_said (Claims c.claim-claim.result.set c.claim-claim.result.index p) (after_said (Reads 1 c.note_alloc.new.w.view.generation) c.note_alloc.new.w)) c.claim-claim.ensures.page c.claim-claim.ensures.view)
    (subst (λ (p : ℕ). c.fill.new.w ≡ after_said (Fills c.claim-claim.result.set p) c.claim-claim.new.w) c.claim-claim.ensures.page c.fill.ensures) (sym c.note_alloc.ensures.same.page) refl).2
