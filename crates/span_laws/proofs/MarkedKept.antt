-- The marks stay those of the lives, where one page changes.
use Rattle.std.proofs.Common.{◌≡◌, ◌≢◌, ℕ, ◌<◌, List, length, get_or, sym, ap, ◌∙◌, subst}
use mathlib.Core.Logic.{dite}
use native.Mathlib.Decide.{ℕ_discrete}
use Rattle.sweep_laws.specs.ChangesOfLives.{marks_at}
use Rattle.sweep_laws.specs.Counts.{times}
use Rattle.sweep_laws.specs.Reading.{life_in}
use Rattle.sweep_laws.specs.State.{LifeState}
use Rattle.span_laws.specs.Bodies.{IsWaiting, Marked}

module _ (g : ℕ) (ws : List ℕ) (ls : List LifeState) (marks : List (ℕ × ℕ)) (k : Marked g ws ls marks) (ws' : List ℕ) (ls' : List LifeState) (p : ℕ) (many : length ws' ≡ length ws)
    (words : (q : ℕ) → q ≢ p → get_or ws' q 0 ≡ get_or ws q 0) (life : (q : ℕ) → q ≢ p → life_in q ls' ≡ life_in q ls)
    (here : IsWaiting g (get_or ws' p 0) → (life_in p ls').kept ≡ marks_at p marks)
    (there : (i : ℕ) → 0 < times i (life_in p ls).allocated → 0 < times i (marks_at p marks) → 0 < times i (life_in p ls').allocated) where
  pub marked_turn : Marked g ws' ls' marks
  marked_turn = record {
    kept = λ q l w. dite (ℕ_discrete q p)
        (λ e. subst (λ (z : ℕ). (life_in z ls').kept ≡ marks_at z marks) (sym e) (here (subst (λ (z : ℕ). IsWaiting g (get_or ws' z 0)) e w)))
        (λ d. ap (λ (l : LifeState). l.kept) (life q d) ∙ k.kept q (subst (λ (z : ℕ). q < z) many l) (subst (IsWaiting g) (words q d) w));
    allocated = λ q i m. let r = k.allocated q i m in (
      subst (λ (z : ℕ). q < z) (sym many) r.0,
      dite (ℕ_discrete q p)
          (λ e. subst (λ (z : ℕ). 0 < times i (life_in z ls').allocated) (sym e) (there i (subst (λ (z : ℕ). 0 < times i (life_in z ls).allocated) e r.1) (subst (λ (z : ℕ). 0 < times i (marks_at z marks)) e m)))
          (λ d. subst (λ (l : LifeState). 0 < times i l.allocated) (sym (life q d)) r.1),
    );
  }
