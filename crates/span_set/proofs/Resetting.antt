-- A reset of one set more.
use Rattle.std.proofs.Common.{◌≡◌, ℕ, ◌+◌, ◌<◌, true, false, true≢false, List, [], ◌∷◌, ◌++◌, refl, ap, sym, subst, ◌∙◌, arith}
use Rattle.std.proofs.lemmas.List.{append-nil}
use mathlib.Core.Logic.{dite}
use native.Mathlib.Decide.{ℕ_discrete}
use Rattle.sweep_laws.specs.Lists.{has}
use Rattle.sweep_laws.specs.Reading.{is_swept_set}
use Rattle.worker_log.specs.Entries.{is_seen_empty, many}
use Rattle.span_laws.specs.declared.said.Said.TheVariants.{Reads, Resets as ResetsSet}
use Rattle.span_laws.specs.Views.{Seen, acts}
use Rattle.span_laws.specs.OwnSteps.{after_said}
use Rattle.span_laws.proofs.Parts.{has_end_else, has_end_here}
use Rattle.span_set.specs.Resets.{ResetsBelow}

assoc_end : (xs ys : List ℕ) (y : ℕ) → (xs ++ ys) ++ y ∷ [] ≡ xs ++ (ys ++ y ∷ [])
assoc_end [] ys y = refl
assoc_end (x ∷ xs) ys y = ap (λ (l : List ℕ). x ∷ l) (assoc_end xs ys y)

module _ (old now : Seen) where
  pub none_reset : now ≡ after_said (Reads 1 old.view.generation) old → ResetsBelow 0 old now
  none_reset e = record {
    sets = [];
    unswept = λ k l u. absurd (omega arith);
    only = λ k h. absurd (true≢false (sym h));
    view = e ∙ ap (λ (l : List ℕ). let w : Seen = after_said (Reads 1 old.view.generation) old in let z : Seen = record w { view = acts w.view (record w.view.own { reset = l }) } in z) (sym (append-nil old.view.own.reset));
  }

  module _ (n : ℕ) (r : ResetsBelow n old now) where
    pub reset_away : now.away ≡ old.away
    reset_away = ap (λ (w : Seen). w.away) r.view

    pub reset_table : now.table ≡ old.table
    reset_table = ap (λ (w : Seen). w.table) r.view

    pub reset_part : now.view.generation ≡ old.view.generation
    reset_part = ap (λ (w : Seen). w.view.generation) r.view

    pub reset_empty : 0 < many (is_seen_empty n) old.view.own.log → 0 < many (is_seen_empty n) now.view.own.log
    reset_empty l = subst (λ (w : Seen). 0 < many (is_seen_empty n) w.view.own.log) (sym r.view) (omega arith)

    pub reset_skips : is_swept_set old.view.generation n ≡ true → ResetsBelow (n + 1) old now
    reset_skips part = record {
      sets = r.sets;
      unswept = λ k l u. dite (ℕ_discrete k n)
          (λ e. absurd (true≢false (sym part ∙ ap (is_swept_set old.view.generation) (sym e) ∙ u)))
          (λ d. r.unswept k (omega arith) u);
      only = r.only;
      view = r.view;
    }

    pub resets_more : (new : Seen) → is_swept_set old.view.generation n ≡ false → new ≡ after_said (ResetsSet n) now → ResetsBelow (n + 1) old new
    resets_more new part e = record {
      sets = r.sets ++ n ∷ [];
      unswept = λ k l u. subst (λ (w : Seen). has k w.view.own.reset ≡ true) (sym e)
          (dite (ℕ_discrete k n)
          (λ s. subst (λ (x : ℕ). has x (now.view.own.reset ++ n ∷ []) ≡ true) (sym s) (has_end_here n now.view.own.reset))
          (λ d. has_end_else k n now.view.own.reset d ∙ r.unswept k (omega arith) u));
      only = λ k h. dite (ℕ_discrete k n)
          (λ s. subst (λ (x : ℕ). is_swept_set old.view.generation x ≡ false) (sym s) part)
          (λ d. r.only k (sym (has_end_else k n r.sets d) ∙ h));
      view = e ∙ ap (after_said (ResetsSet n)) r.view
          ∙ ap (λ (l : List ℕ). let w : Seen = after_said (Reads 1 old.view.generation) old in let z : Seen = record w { view = acts w.view (record w.view.own { reset = l }) } in z) (assoc_end old.view.own.reset r.sets n);
    }
