-- What a claim asks, from what a push asks.
use Rattle.std.proofs.Common.{◌≡◌, ℕ, Bool, true, false, ap, sym, ◌∙◌, arith, subst}
use Rattle.page_bitmap.specs.Counts.{one_if}
use Rattle.span_state.specs.declared.body.Body.{Body}
use Rattle.sweep_laws.specs.Reading.{class_of_set}
use Rattle.worker_log.specs.SetNumbers.{is_full_set, swept_set}
use Rattle.worker_log.specs.Entries.{is_placing_in, is_pop_of, many}
use Rattle.span_laws.specs.declared.said.Said.TheVariants.{Reads}
use Rattle.span_laws.specs.Answers.{IsOfSet}
use Rattle.span_laws.specs.Views.{Seen}
use Rattle.span_laws.specs.OwnSteps.{after_said}
use Rattle.span_set.specs.declared.sets.SetId.{SetId}
use Rattle.span_set.specs.Sets.{MayPush, swept_of}
use Rattle.span_set.proofs.Numbers.{class_is, few, full_is, partial_is}

full_as : (g k : ℕ) (b : Bool) → is_full_set (swept_set g k (one_if b)) ≡ b
full_as g k true = full_is g k
full_as g k false = partial_is g k

module _ (s : SetId) (b : Body) (w : Seen) (may : MayPush s b w) (n : ℕ) (is : n ≡ swept_of w.view.generation s) where
  as_full : is_full_set n ≡ s.full
  as_full = ap is_full_set is ∙ full_as w.view.generation s.class s.full

  pub fits_set : IsOfSet n b
  fits_set = record {
    class = ap class_of_set is ∙ class_is w.view.generation s.class (one_if s.full) (few s.full) ∙ sym may.class;
    used = may.used;
    full = λ f. may.full (sym as_full ∙ f);
    room = λ f. may.room (sym as_full ∙ f);
  }

  module _ (now : Seen) (read : now ≡ after_said (Reads 1 w.view.generation) w) where
    pub not_popped : many (is_pop_of n b.page) now.view.own.log ≡ 0
    not_popped = subst (λ (x : Seen). many (is_pop_of n b.page) x.view.own.log ≡ 0) (sym read)
        (subst (λ (m : ℕ). many (is_pop_of m b.page) (after_said (Reads 1 w.view.generation) w).view.own.log ≡ 0) (sym is) (let u = may.unpopped in omega arith))

    pub not_placed : is_full_set n ≡ false → many (is_placing_in b.page) now.view.own.log ≡ 0
    not_placed f = subst (λ (x : Seen). many (is_placing_in b.page) x.view.own.log ≡ 0) (sym read) (let u = may.unplaced (sym as_full ∙ f) in omega arith)
