use Rattle.std.proofs.Common.{◌≡◌, ℕ, ◌++◌, ◌∷◌, [], ap, ◌∙◌, arith}
use Rattle.std.specs.Prelude.{Err}
use Rattle.sweep_laws.specs.Lists.{has}
use Rattle.span_state.specs.Spans.{allocated}
use Rattle.span_laws.specs.Views.{Seen, span_at, span_of}
use Rattle.span_laws.specs.OwnSteps.{after_of}
use Rattle.span_laws.specs.declared.said.SaidOf.TheVariants.{Places}
use Rattle.span_laws.proofs.Parts.{has_end_here}
use Rattle.span_laws.proofs.WordMoves.{span_here}
use Rattle.span_table_tests.proofs.Tables.{ready_taken, untouched_sets}
use Rattle.span_table_tests.proofs.helpers.large.Goals as goal

pub note_alloc-requires-clause-free : goal.note_alloc-requires-clause-free
note_alloc-requires-clause-free g c = record { inside = (let s = c.in-Ok.body.some_object in omega arith); free = c.in-Ok.ensures.is_new.empty 0; lowest = λ j l. absurd (omega arith) }

pub returns-in-Err-clause-ready : goal.returns-in-Err-clause-ready
returns-in-Err-clause-ready g c = ready_taken c.args.shared.now c.args.w.now c.requires.ready c.max.result 0 c.take_span.new.w (Err c.in-Err.refused) c.in-Err.ensures

pub returns-clause-body : goal.returns-clause-body
returns-clause-body g c = let t = c.in-Ok.ensures in let a = c.note_alloc.ensures in let b = c.note_alloc.new.body in let old = c.in-Ok.body in
    let count : b.count ≡ 1 = a.same.count ∙ (t.is_new.large (omega arith)).0 in record {
      class = a.same.class ∙ t.is_new.class;
      held = ap (λ (x : Seen). has b.page x.view.own.held) (a.view ∙ ap (after_of (Places 0) (span_of b)) t.view)
          ∙ ap (λ (p : ℕ). has p (c.args.w.now.view.own.held ++ old.page ∷ [])) a.same.page ∙ has_end_here old.page c.args.w.now.view.own.held;
      lent = ap (λ (x : Seen). span_at b.page x.view.own.spans) a.view ∙ span_here (span_of b) c.take_span.new.w.view.own.spans;
      used = (0, (omega arith), a.body 0);
      full = λ j l. (let z : j ≡ 0 = omega arith in ap (allocated b) z ∙ a.body 0);
      unpopped = λ j l s. untouched_sets c.args.w.now c.take_span.new.w c.note_alloc.new.w _ _ 0 _ t.view a.view old.page b.page a.same.page t.untouched j l s;
    }
