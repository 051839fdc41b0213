-- Lives whose objects change, and Allocate keeps the rule.
use Rattle.std.proofs.Common.{◌≡◌, ℕ, zero, suc, ◌+◌, ◌<◌, ◌≤◌, inl, inr, ⊎_elim, Bool, true, false, cond, not, List, [], ◌∷◌, length, sym, refl, ◌∙◌, subst, arith, eq-eqb, ne_eqb}
use Rattle.std.specs.Prelude.{Option, Some}
use Rattle.std.specs.List.{AllByRecursion, find, range_with_len}
use mathlib.Core.Logic.{dite}
use native.Mathlib.Decide.{ℕ_discrete}
use Rattle.sweep_laws.specs.State.{LifeState, SetState, HandState}
use Rattle.sweep_laws.specs.Lists.{has, least_outside}
use Rattle.sweep_laws.specs.Reading.{cell_of, class_of_set, life_in}
use Rattle.sweep_laws.specs.ChangesOfLives.{change_life, allocate_index}
use Rattle.sweep_laws.specs.Named.{poppers, pullers, is_class, claimers}
use Rattle.sweep_laws.specs.OwnedLives.{ObjectsFit}
use Rattle.sweep_laws.specs.OwnedSets.{IsPage}
use Rattle.sweep_laws.specs.Standing.{tally, Page, Kept}
use Rattle.sweep_laws.proofs.Totals.{times_append, other_one}
use Rattle.sweep_laws.proofs.Lives.{Alike, changed_alike, alike_covers, alike_owner, alike_begins, alike_class, alike_whole}
use Rattle.sweep_laws.proofs.NeedsMet.{some_none}
use Rattle.sweep_laws.proofs.Turned.{alike_own}

-- the objects of all lives fit where those of the life that changes do
pub objects_changed : (p : ℕ) (f : LifeState → LifeState) (ls : List LifeState) → (ObjectsFit (life_in p ls) → ObjectsFit (f (life_in p ls))) → AllByRecursion ObjectsFit ls → AllByRecursion ObjectsFit (change_life p f ls)
objects_changed p f [] fits all = tt
objects_changed p f (l ∷ ls) fits all = dite (ℕ_discrete l.page p)
    (λ e. let t = eq-eqb l.page p e in rw t (subst (λ (m : LifeState). ObjectsFit m → ObjectsFit (f m)) (rw t refl) fits all.0, all.1))
    (λ d. let t = ne_eqb l.page p d in rw t (all.0, objects_changed p f ls (subst (λ (m : LifeState). ObjectsFit m → ObjectsFit (f m)) (rw t refl) fits) all.1))

-- a number that is found in a range is in it
found_in : (test : ℕ → Bool) (a n i : ℕ) → find test (range_with_len a n) ≡ Some i → i < a + n
found_in test a zero i e = absurd (some_none i (sym e))
found_in test a (suc n) i e = go (test a) (λ s. let t = found_in test (a + 1) n i s in omega arith) e
  where
    same : (x y : ℕ) → Some x ≡ Some y → x ≡ y
    same x y s = cc

    go : (b : Bool) → (find test (range_with_len (a + 1) n) ≡ Some i → i < a + suc n) → cond b (Some a) (find test (range_with_len (a + 1) n)) ≡ Some i → i < a + suc n
    go false further s = further s
    go true further s = let t = same a i s in omega arith

-- a free index is below the count
pub free_below : (xs : List ℕ) (n i : ℕ) → least_outside xs n ≡ Some i → i < n
free_below xs n i e = let t = found_in (λ j. not (has j xs)) 0 n i e in omega arith

pub allocated_fits : (i : ℕ) (l : LifeState) → i < l.count → ObjectsFit l → ObjectsFit (allocate_index i l)
allocated_fits i l low f = record {
  kept = λ j e. let t = f.kept j e in let a = times_append j l.allocated (i ∷ []) in omega arith;
  allocated = λ j e. dite (ℕ_discrete j i) (λ s. omega arith)
      (λ d. let a = times_append j l.allocated (i ∷ []) in let o = other_one i j (λ s. d (sym s)) in f.allocated j (omega arith));
}

module _ (g : ℕ) (ws : List ℕ) (os : List (Option ℕ)) (ls : List LifeState) (ss : List SetState) (hs : List HandState) (k : Kept g ws os ls ss hs) where
  -- lives that differ in their objects alone
  pub relived : (ls' : List LifeState) → Alike ls ls' → AllByRecursion ObjectsFit ls' → Kept g ws os ls' ss hs
  relived ls' alike objects = record {
    generation = k.generation;
    lives_fit = record {
      entries = k.lives_fit.entries;
      word = k.lives_fit.word;
      begin = λ q low. sym (alike_begins q ls ls' alike) ∙ k.lives_fit.begin q low;
      owner_is = λ q low. k.lives_fit.owner_is q low ∙ alike_owner q ls ls' alike;
      apart = λ q. subst (λ (z : ℕ). z ≤ 1) (alike_covers q ls ls' alike) (k.lives_fit.apart q);
      whole = alike_whole ls ls' alike k.lives_fit.whole;
    };
    pulled = λ q. subst (λ (z : ℕ). z + pullers q hs ≤ 1) (alike_covers q ls ls' alike) (k.pulled q);
    page = λ q low. subst (λ (z : ℕ). Page g (record (tally g ws ls ss hs q) { own = z + poppers q hs })) (sym (alike_own g q ls ls' ss alike)) (k.page q low);
    sets_fit = record {
      order = k.sets_fit.order;
      beyond = k.sets_fit.beyond;
      unswept_cell = k.sets_fit.unswept_cell;
      swept_cell = λ j x a u i l m. ⊎_elim
          (λ (c : IsPage (length ws) (λ p. is_class p (class_of_set j) ls ≡ true) (cell_of x i)). inl (c.0, c.1, c.2, sym (alike_class c.0 (class_of_set j) ls ls' alike) ∙ c.3))
          (λ (c : (cell_of x i ≡ 0) × (claimers j i hs ≡ 1)). inr c)
          (k.sets_fit.swept_cell j x a u i l m);
      claim = λ m x a d e. let c = k.sets_fit.claim m x a d e in record {
        set_at = c.set_at;
        is_set = c.is_set;
        is_swept = c.is_swept;
        from_head = c.from_head;
        below_tail = c.below_tail;
        blank = c.blank;
        is_page = c.is_page;
        held = c.held;
        class = sym (alike_class d.page (class_of_set d.set) ls ls' alike) ∙ c.class;
      };
    };
    objects = objects;
  }

  pub allocate_keeps : (p i : ℕ) → i < (life_in p ls).count → Kept g ws os (change_life p (allocate_index i) ls) ss hs
  allocate_keeps p i low = relived (change_life p (allocate_index i) ls) (changed_alike p (allocate_index i) (λ l. record { page = refl; pages = refl; class = refl }) ls)
      (objects_changed p (allocate_index i) ls (allocated_fits i (life_in p ls) low) k.objects)
