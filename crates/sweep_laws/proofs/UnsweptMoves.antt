-- PopUnswept and DropPopped keep the rule.
use Rattle.std.proofs.Common.{◌≡◌, ◌≢◌, ℕ, suc, ◌+◌, ◌<◌, ◌⊎◌, inl, inr, ⊎_elim, Bool, true, false, eqb, List, length, set, get_or, sym, refl, ap, subst, arith}
use Rattle.std.specs.Prelude.{Option}
use mathlib.Core.Logic.{dite}
use mathlib.Core.Option.{some}
use lib.ListN.{get_elem?}
use native.Mathlib.Decide.{ℕ_discrete}
use Rattle.sweep_laws.specs.State.{LifeState, SetState, HandState}
use Rattle.sweep_laws.specs.Reading.{cell_of, class_of_set, is_swept_set}
use Rattle.sweep_laws.specs.ChangesOfHands.{pop_entry, drop_entry}
use Rattle.sweep_laws.specs.ChangesOfSets.{raise_head}
use Rattle.sweep_laws.specs.Counts.{one_if}
use Rattle.sweep_laws.specs.Named.{only, names_in, is_class}
use Rattle.sweep_laws.specs.Standing.{tally, Page, Kept}
use Rattle.sweep_laws.proofs.Totals.{same_one, other_one, times_end, times_end_else}
use Rattle.sweep_laws.proofs.Naming.{times_erase_le, times_erase_else}
use Rattle.sweep_laws.proofs.Unpopped.{head_between}
use Rattle.sweep_laws.proofs.Lives.{same_alike}
use Rattle.sweep_laws.proofs.Standings.{unswept_word, page_entries}
use Rattle.sweep_laws.proofs.Deltas.{deltas}
use Rattle.sweep_laws.proofs.Turned.{turned, pulled_as}
use Rattle.sweep_laws.proofs.Reset.{set_deltas, head_raised}

pub only_step : (b : Bool) (x y : ℕ) → x ≡ suc y → (only b x ≡ suc (only b y)) ⊎ ((only b x ≡ 0) × (only b y ≡ 0))
only_step true x y e = inl e
only_step false x y e = inr (refl, refl)

module _ (g : ℕ) (ws : List ℕ) (os : List (Option ℕ)) (ls : List LifeState) (ss : List SetState) (hs : List HandState) (k : Kept g ws os ls ss hs) (n : ℕ) (h : HandState) (at : get_elem? hs n ≡ some h) (p : ℕ) (low : p < length ws) where
  pub drop_popped_keeps : get_or ws p 0 + 2 ≢ g → Kept g ws os ls ss (set hs n (drop_entry p h))
  drop_popped_keeps other = let h' : HandState = drop_entry p h in let d = deltas hs n h h' at p in
      turned g ws os ls ss hs n h h' at k p ws ls refl (λ q o. refl) (λ _. refl) (same_alike ls) k.objects
      record { sweeping = λ q o. refl; held = λ q o. refl; cached = λ q o. refl; popped = λ q o. times_erase_else q p h.popped o; swept = λ q o. refl }
      refl refl (λ x e. (k.sets_fit.claim n h at x e).held)
      (λ _. page_entries g (tally g ws ls ss hs p) (tally g ws ls ss (set hs n h') p) (k.page p low) refl (omega arith) (omega arith) (omega arith) refl
      (λ e. absurd (other e)) (let a = times_erase_le p h.popped in let w = (k.page p low).waiting in omega arith) (omega arith))

  pub pop_unswept_keeps : (j : ℕ) (s : SetState) → get_elem? ss j ≡ some s → is_swept_set g j ≡ false → s.head < s.tail → cell_of s s.head ≡ p + 1
      → Kept g ws os ls (set ss j (raise_head s)) (set hs n (pop_entry p h))
  pop_unswept_keeps j s there part more here = record {
    generation = k.generation;
    lives_fit = k.lives_fit;
    pulled = pulled_as g ws os ls ss hs n h h' at ls refl (λ q. omega arith) k.pulled;
    page = λ q l. dite (ℕ_discrete q p) (λ e. subst (λ (z : ℕ). Page g (tally g ws ls ss' hs' z)) (sym e) here_page) (λ o. else_page q o l);
    sets_fit = head_raised g (length ws) ls ss hs k.sets_fit n h h' at refl (λ q. omega arith) j s there more (omega arith);
    objects = k.objects;
  }
    where
      h' : HandState
      h' = pop_entry p h

      s' : SetState
      s' = raise_head s

      hs' : List HandState
      hs' = set hs n h'

      ss' : List SetState
      ss' = set ss j s'

      else_page : (q : ℕ) → q ≢ p → q < length ws → Page g (tally g ws ls ss' hs' q)
      else_page q o l = let d = deltas hs n h h' at q in let e = set_deltas g q ls ss j s s' false there part in let r = k.page q l in let w = r.waiting in
          let c = head_between (cell_of s) (q + 1) s.head s.tail more in let f = ap (λ (z : ℕ). one_if (eqb z (q + 1))) here in let z = other_one (p + 1) (q + 1) (λ x. o (omega arith)) in
          let a = times_end_else q p h.popped o in let y : names_in q s ≡ names_in q s' = omega arith in
          let m = ap (only (is_class q (class_of_set j) ls)) y in
          page_entries g (tally g ws ls ss hs q) (tally g ws ls ss' hs' q) r refl (omega arith) (omega arith) (omega arith) (omega arith)
          (λ x. let u = (unswept_word g (tally g ws ls ss hs q) k.generation.low r.standing x).1 in omega arith) (omega arith) (omega arith)

      here_page : Page g (tally g ws ls ss' hs' p)
      here_page = let d = deltas hs n h h' at p in let e = set_deltas g p ls ss j s s' false there part in let r = k.page p low in let w = r.waiting in
          let c = head_between (cell_of s) (p + 1) s.head s.tail more in let f = ap (λ (z : ℕ). one_if (eqb z (p + 1))) here in let z = same_one (p + 1) in
          let a = times_end p h.popped in let y : names_in p s ≡ suc (names_in p s') = omega arith in
          page_entries g (tally g ws ls ss hs p) (tally g ws ls ss' hs' p) r refl (omega arith) (omega arith) (omega arith) (omega arith)
          (λ x. let u = (unswept_word g (tally g ws ls ss hs p) k.generation.low r.standing x).1 in
          ⊎_elim (λ (t : only (is_class p (class_of_set j) ls) (names_in p s) ≡ suc (only (is_class p (class_of_set j) ls) (names_in p s'))). omega arith)
          (λ (t : (only (is_class p (class_of_set j) ls) (names_in p s) ≡ 0) × (only (is_class p (class_of_set j) ls) (names_in p s') ≡ 0)). let g₀ = e.gap in let t₀ = t.0 in absurd (omega arith))
          (only_step (is_class p (class_of_set j) ls) (names_in p s) (names_in p s') y))
          (omega arith) (omega arith)
