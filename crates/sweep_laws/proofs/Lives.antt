-- Lives that differ in what they have allocated and kept alone cover the same pages.
use Rattle.std.proofs.Common.{◌≡◌, ℕ, ◌+◌, ◌≤◌, true, cond, eqb, ◌&&◌, ltb, leb, List, [], ◌∷◌, map, refl, subst, eq-eqb, ne_eqb}
use Rattle.std.specs.Prelude.{Some}
use Rattle.std.specs.List.{AllByRecursion}
use mathlib.Core.Logic.{dite}
use native.Mathlib.Decide.{ℕ_discrete}
use Rattle.sweep_laws.specs.State.{LifeState}
use Rattle.sweep_laws.specs.ChangesOfLives.{change_life}
use Rattle.sweep_laws.specs.Counts.{one_if}
use Rattle.sweep_laws.specs.Named.{covers, owner, begins, is_class}

-- two lives have the same pages and class
pub record SamePlace (l m : LifeState) : Type 0 where
  pub page : l.page ≡ m.page
  pub pages : l.pages ≡ m.pages
  pub class : l.class ≡ m.class

-- so have the lives of two lists, one by one
abbrev pub Alike : List LifeState → List LifeState → Type 0
Alike [] [] = Unit {0}
Alike [] (m ∷ ms) = ⊥
Alike (l ∷ ls) [] = ⊥
Alike (l ∷ ls) (m ∷ ms) = SamePlace l m × Alike ls ms

pub same_alike : (ls : List LifeState) → Alike ls ls
same_alike [] = tt
same_alike (l ∷ ls) = (record { page = refl; pages = refl; class = refl }, same_alike ls)

pub mapped_alike : (f : LifeState → LifeState) → ((l : LifeState) → SamePlace l (f l)) → (ls : List LifeState) → Alike ls (map f ls)
mapped_alike f same [] = tt
mapped_alike f same (l ∷ ls) = (same l, mapped_alike f same ls)

pub changed_alike : (p : ℕ) (f : LifeState → LifeState) → ((l : LifeState) → SamePlace l (f l)) → (ls : List LifeState) → Alike ls (change_life p f ls)
changed_alike p f same [] = tt
changed_alike p f same (l ∷ ls) = dite (ℕ_discrete l.page p)
    (λ e. rw (eq-eqb l.page p e) (same l, same_alike ls))
    (λ d. rw (ne_eqb l.page p d) (record { page = refl; pages = refl; class = refl }, changed_alike p f same ls))

pub alike_covers : (p : ℕ) (ls ms : List LifeState) → Alike ls ms → covers p ls ≡ covers p ms
alike_covers p [] [] a = refl
alike_covers p [] (m ∷ ms) a = absurd a
alike_covers p (l ∷ ls) [] a = absurd a
alike_covers p (l ∷ ls) (m ∷ ms) a = λ i. one_if (leb (a.0.page i) p && ltb p (a.0.page i + a.0.pages i)) + alike_covers p ls ms a.1 i

pub alike_owner : (p : ℕ) (ls ms : List LifeState) → Alike ls ms → owner p ls ≡ owner p ms
alike_owner p [] [] a = refl
alike_owner p [] (m ∷ ms) a = absurd a
alike_owner p (l ∷ ls) [] a = absurd a
alike_owner p (l ∷ ls) (m ∷ ms) a = λ i. cond (leb (a.0.page i) p && ltb p (a.0.page i + a.0.pages i)) (Some (a.0.page i)) (alike_owner p ls ms a.1 i)

pub alike_begins : (p : ℕ) (ls ms : List LifeState) → Alike ls ms → begins p ls ≡ begins p ms
alike_begins p [] [] a = refl
alike_begins p [] (m ∷ ms) a = absurd a
alike_begins p (l ∷ ls) [] a = absurd a
alike_begins p (l ∷ ls) (m ∷ ms) a = λ i. cond (eqb (a.0.page i) p) true (alike_begins p ls ms a.1 i)

pub alike_class : (p k : ℕ) (ls ms : List LifeState) → Alike ls ms → is_class p k ls ≡ is_class p k ms
alike_class p k [] [] a = refl
alike_class p k [] (m ∷ ms) a = absurd a
alike_class p k (l ∷ ls) [] a = absurd a
alike_class p k (l ∷ ls) (m ∷ ms) a = λ i. cond (eqb (a.0.page i) p) (eqb (a.0.class i) k) (alike_class p k ls ms a.1 i)

pub alike_whole : (ls ms : List LifeState) → Alike ls ms → AllByRecursion (λ l. 1 ≤ l.pages) ls → AllByRecursion (λ l. 1 ≤ l.pages) ms
alike_whole [] [] a w = tt
alike_whole [] (m ∷ ms) a w = absurd a
alike_whole (l ∷ ls) [] a w = absurd a
alike_whole (l ∷ ls) (m ∷ ms) a w = (subst (λ (k : ℕ). 1 ≤ k) a.0.pages w.0, alike_whole ls ms a.1 w.1)
