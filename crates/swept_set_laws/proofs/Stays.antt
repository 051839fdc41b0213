-- What words and lives keep of the pages that swept sets name, where one page changes.
use Rattle.std.proofs.Common.{◌≡◌, ◌≢◌, ℕ, ◌<◌, List, [], ◌∷◌, ◌++◌, length, get_or, set, refl, sym, ◌∙◌, subst, arith, eq-eqb, ne_eqb}
use Rattle.std.proofs.lemmas.List.{get_or-set_same, get_or-set_other}
use mathlib.Core.Logic.{dite}
use native.Mathlib.Decide.{ℕ_discrete}
use Rattle.sweep_laws.specs.State.{LifeState}
use Rattle.sweep_laws.specs.Reading.{life_in}
use Rattle.sweep_laws.specs.ChangesOfLives.{change_life, drop_life}
use Rattle.sweep_laws.specs.Named.{is_class}
use Rattle.sweep_laws.proofs.LivesChange.{class_append_else, class_drop}
use Rattle.swept_set_laws.specs.Entered.{IsSettled}

-- each settled page with an object keeps its life, and stays settled
abbrev pub Stays : ℕ → ℕ → List ℕ → List LifeState → List ℕ → List LifeState → Type 0
Stays g pages ws ls ws' ls' = (q : ℕ) → q < pages → IsSettled g (get_or ws q 0) → 0 < length (life_in q ls).allocated
    → IsSettled g (get_or ws' q 0) × (life_in q ls' ≡ life_in q ls) × ((m : ℕ) → is_class q m ls' ≡ is_class q m ls)

pub change_else : (p q : ℕ) (f : LifeState → LifeState) → ((l : LifeState) → (f l).page ≡ l.page) → (ls : List LifeState) → q ≢ p → (life_in q (change_life p f ls) ≡ life_in q ls) × ((m : ℕ) → is_class q m (change_life p f ls) ≡ is_class q m ls)
change_else p q f e [] d = (refl, λ m. refl)
change_else p q f e (l ∷ ls) d = dite (ℕ_discrete l.page p)
    (λ s. let a = eq-eqb l.page p s in let b = ne_eqb l.page q (λ z. d (sym z ∙ s)) in let c = ne_eqb (f l).page q (λ z. d (sym z ∙ e l ∙ s)) in
    (rw (a, b, c) refl, λ m. rw (a, b, c) refl))
    (λ s. let a = ne_eqb l.page p s in let t = change_else p q f e ls d in
    dite (ℕ_discrete l.page q) (λ z. let b = eq-eqb l.page q z in (rw (a, b) refl, λ m. rw (a, b) refl)) (λ z. let b = ne_eqb l.page q z in (rw (a, b) t.0, λ m. rw (a, b) (t.1 m))))

pub append_else : (q : ℕ) (n : LifeState) (ls : List LifeState) → n.page ≢ q → life_in q (ls ++ n ∷ []) ≡ life_in q ls
append_else q n [] d = rw (ne_eqb n.page q d) refl
append_else q n (l ∷ ls) d = dite (ℕ_discrete l.page q) (λ z. rw (eq-eqb l.page q z) refl) (λ z. rw (ne_eqb l.page q z) (append_else q n ls d))

module _ (g : ℕ) (ws : List ℕ) (ls : List LifeState) (p x : ℕ) (low : p < length ws) where
  -- a word changes, and stays settled if it was
  pub word_stays : (IsSettled g (get_or ws p 0) → IsSettled g x) → Stays g (length ws) ws ls (set ws p x) ls
  word_stays f q l w u = (
    dite (ℕ_discrete q p)
        (λ e. subst (λ (z : ℕ). IsSettled g (get_or (set ws p x) z 0)) (sym e) (subst (IsSettled g) (sym (get_or-set_same ws p x 0 low)) (f (subst (λ (z : ℕ). IsSettled g (get_or ws z 0)) e w))))
        (λ d. subst (IsSettled g) (sym (get_or-set_other ws p q x 0 d)) w),
    refl,
    λ m. refl,
  )

  -- the page was not settled, so its life may change too
  module _ (none : IsSettled g (get_or ws p 0) → ⊥) where
    other_page : (q : ℕ) → IsSettled g (get_or ws q 0) → q ≢ p
    other_page q w e = none (subst (λ (z : ℕ). IsSettled g (get_or ws z 0)) e w)

    pub change_stays : (f : LifeState → LifeState) → ((l : LifeState) → (f l).page ≡ l.page) → Stays g (length ws) ws ls (set ws p x) (change_life p f ls)
    change_stays f e q l w u = let d = other_page q w in let t = change_else p q f e ls d in (subst (IsSettled g) (sym (get_or-set_other ws p q x 0 d)) w, t.0, t.1)

    pub append_stays : (n : LifeState) → n.page ≡ p → Stays g (length ws) ws ls (set ws p x) (ls ++ n ∷ [])
    append_stays n e q l w u = let d = other_page q w in
        (subst (IsSettled g) (sym (get_or-set_other ws p q x 0 d)) w, append_else q n ls (λ z. d (sym z ∙ e)), λ m. class_append_else q m ls n (λ z. d (sym z ∙ e)))

drop_else : (p q : ℕ) (ls : List LifeState) → q ≢ p → life_in q (drop_life p ls) ≡ life_in q ls
drop_else p q [] d = refl
drop_else p q (l ∷ ls) d = dite (ℕ_discrete l.page p)
    (λ s. let a = eq-eqb l.page p s in let b = ne_eqb l.page q (λ z. d (sym z ∙ s)) in rw (a, b) refl)
    (λ s. let a = ne_eqb l.page p s in dite (ℕ_discrete l.page q) (λ z. let b = eq-eqb l.page q z in rw (a, b) refl) (λ z. let b = ne_eqb l.page q z in rw (a, b) (drop_else p q ls d)))

-- a life with nothing allocated goes
pub drop_stays : (g : ℕ) (ws : List ℕ) (ls : List LifeState) (p : ℕ) → length (life_in p ls).allocated ≡ 0 → Stays g (length ws) ws ls (set ws p 0) (drop_life p ls)
drop_stays g ws ls p none q l w u =
    let d : q ≢ p = (λ e. let x : 0 < length (life_in p ls).allocated = subst (λ (z : ℕ). 0 < length (life_in z ls).allocated) e u in omega arith) in
    (subst (IsSettled g) (sym (get_or-set_other ws p q 0 0 d)) w, drop_else p q ls d, λ m. class_drop p q m ls d)
