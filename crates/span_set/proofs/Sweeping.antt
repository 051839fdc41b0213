-- What a release asks, and what it tells, from the sweep of a body.
use Rattle.std.proofs.Common.{◌≡◌, ℕ, ◌&&◌, not, true, List, ◌∷◌, ap, sym, ◌∙◌}
use Rattle.std.specs.Prelude.{Some, Option, unwrap_or}
use Rattle.span_state.specs.Bits.{bit_of, count_below}
use Rattle.span_state.specs.MarkSet.{MarkSet, has_pair, is_marked}
use Rattle.span_state.specs.Spans.{allocated}
use Rattle.span_state.specs.declared.body.Body.{Body}
use Rattle.span_state.specs.declared.sweep.Swept.{Swept}
use Rattle.worker_log.specs.declared.Entry.{Entry}
use Rattle.worker_log.specs.declared.Entry.TheVariants.{Added, Read, Swept as SweptEntry}
use Rattle.span_laws.specs.declared.view.Span.{Span}
use Rattle.span_laws.specs.declared.said.Said.TheVariants.{Adds, Reads}
use Rattle.span_laws.specs.declared.said.SaidOf.TheVariants.{Releases}
use Rattle.span_laws.specs.BodyAsks.{HasMarks}
use Rattle.span_laws.specs.Asks.{HasSpan}
use Rattle.span_laws.specs.Views.{Seen, no_span, span_at, span_of}
use Rattle.span_laws.specs.OwnSteps.{after_of, after_said, swept_entry}
use Rattle.span_set.specs.Sweeps.{MaySweep, SweepsBody, SweepsInHand}

pub may_mark : (marks : MarkSet) (b : Body) (w : Seen) → MaySweep marks b w → (k : ℕ) → is_marked marks b.page k ≡ true → allocated b k ≡ true
may_mark marks b w may k m = may.marked k (ap (λ (l : List (ℕ × ℕ)). has_pair l b.page k) (sym may.marks) ∙ m)

module _ (marks : MarkSet) (old new : Body) (n : Swept) (w : Seen) (may : MaySweep marks old w) (swept : SweepsBody marks old new n) where
  pub has_marks : HasMarks w.view.marks new
  has_marks k = swept.marked k ∙ ap (λ (l : List (ℕ × ℕ)). has_pair l old.page k) may.marks ∙ ap (λ (p : ℕ). has_pair w.view.marks p k) (sym swept.same.page)

  newest : span_at new.page w.view.own.spans ≡ Some (span_of old)
  newest = ap (λ (p : ℕ). span_at p w.view.own.spans) swept.same.page ∙ may.lent

  pub has_span : HasSpan w.view.own new
  has_span = (
    span_of old,
    newest,
    record { page = sym swept.same.page; pages = sym swept.same.pages; slot = sym swept.same.slot; count = sym swept.same.count; class = sym swept.same.class; life = sym swept.same.life },
  )

  entry : swept_entry (unwrap_or (span_at new.page w.view.own.spans) no_span) (span_of new) ≡ SweptEntry (record { page = new.page; pages = new.pages; kept = n.kept; freed = n.freed })
  entry = ap (λ (o : Option Span). swept_entry (unwrap_or o no_span) (span_of new)) newest
      ∙ (λ i. SweptEntry (record { page = new.page; pages = new.pages; kept = kept i; freed = freed i }))
    where
      kept : count_below new.count (bit_of new.bits) ≡ n.kept
      kept = ap (λ (m : ℕ). count_below m (bit_of new.bits)) swept.same.count ∙ (λ i. count_below old.count (λ k. swept.marked k i)) ∙ sym swept.kept

      freed : count_below new.count (λ k. bit_of old.bits k && not (bit_of new.bits k)) ≡ n.freed
      freed = ap (λ (m : ℕ). count_below m (λ k. bit_of old.bits k && not (bit_of new.bits k))) swept.same.count ∙ (λ i. count_below old.count (λ k. bit_of old.bits k && not (swept.marked k i))) ∙ sym swept.freed

  pub swept_in_hand : (before : ℕ) (now : Seen) → now ≡ after_of Releases (span_of new) (after_said (Adds 2 before new.pages) (after_said (Reads 1 w.view.generation) w)) → SweepsInHand new n w now
  swept_in_hand before now e = record {
    before = before;
    view = e;
    log = ap (λ (s : Seen). s.view.own.log) e ∙ ap (λ (x : Entry). x ∷ Added 2 new.pages ∷ Read 2 before ∷ Read 1 w.view.generation ∷ w.view.own.log) entry;
  }
