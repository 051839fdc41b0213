-- Acquire and Release keep the rule.
use Rattle.std.proofs.Common.{◌≡◌, ℕ, ◌+◌, ◌-◌, ◌<◌, inl, inr, List, [], ◌∷◌, length, set, get_or, refl, arith, length-set, get_or-set_other, get_or-set_same}
use Rattle.std.specs.Prelude.{Option}
use mathlib.Core.Option.{some}
use lib.ListN.{get_elem?}
use Rattle.sweep_laws.specs.State.{LifeState, SetState, HandState}
use Rattle.sweep_laws.specs.ChangesOfHands.{start_sweep, end_sweep}
use Rattle.sweep_laws.specs.ChangesOfLives.{change_life, keep_marked}
use Rattle.sweep_laws.specs.Counts.{times}
use Rattle.sweep_laws.specs.Standing.{tally, is_sweeping, is_swept, Kept}
use Rattle.sweep_laws.proofs.Totals.{times_append, times_end, times_end_else}
use Rattle.sweep_laws.proofs.Naming.{times_erase, times_erase_le, times_erase_else}
use Rattle.sweep_laws.proofs.Lives.{same_alike, changed_alike}
use Rattle.sweep_laws.proofs.Standings.{unswept_word, sweeping_list}
use Rattle.sweep_laws.proofs.Objects.{objects_changed}
use Rattle.sweep_laws.proofs.Deltas.{deltas, parts, both_owned, unlisted}
use Rattle.sweep_laws.proofs.Turned.{turned}

module _ (g : ℕ) (ws : List ℕ) (os : List (Option ℕ)) (ls : List LifeState) (ss : List SetState) (hs : List HandState) (k : Kept g ws os ls ss hs) (n : ℕ) (h : HandState) (at : get_elem? hs n ≡ some h) (p : ℕ) (low : p < length ws) where
  pub acquire_keeps : get_or ws p 0 + 2 ≡ g → Kept g (set ws p (g - 1)) os ls ss (set hs n (start_sweep p h))
  acquire_keeps word = let h' : HandState = start_sweep p h in let ws' = set ws p (g - 1) in
      let d = deltas hs n h h' at p in let r = k.page p low in let old = k.generation.low in
      let s = unswept_word g (tally g ws ls ss hs p) old r.standing word in let s₀ = s.0 in
      let w = get_or-set_same ws p (g - 1) 0 low in
      let u = unlisted g (tally g ws ls ss hs p) r (omega arith) (λ e. omega arith) (λ e. omega arith) in
      let a = times_end p h.sweeping in let b = times_erase_le p h.popped in let c = r.waiting in
      turned g ws os ls ss hs n h h' at k p ws' ls (length-set ws p (g - 1)) (λ q o. get_or-set_other ws p q (g - 1) 0 o)
      (λ _. both_owned (get_or ws' p 0) (get_or ws p 0) (omega arith) (omega arith)) (same_alike ls) k.objects
      record { sweeping = λ q o. times_end_else q p h.sweeping o; held = λ q o. refl; cached = λ q o. refl; popped = λ q o. times_erase_else q p h.popped o; swept = λ q o. refl }
      refl refl (λ x e. (k.sets_fit.claim n h at x e).held)
      (λ _. record {
        standing = is_sweeping (omega arith) (omega arith) (omega arith);
        waiting = omega arith;
        listed = omega arith;
        listed_word = λ l. absurd (omega arith);
      })

  pub release_keeps : 0 < times p h.sweeping → Kept g (set ws p g) os (change_life p keep_marked ls) ss (set hs n (end_sweep p h))
  release_keeps has = let h' : HandState = end_sweep p h in let ws' = set ws p g in let ls' = change_life p keep_marked ls in
      let d = deltas hs n h h' at p in let r = k.page p low in let old = k.generation.low in let i = parts hs n h at p in
      let s = sweeping_list g (tally g ws ls ss hs p) r.standing (omega arith) in let s₀ = s.0 in let s₁ = s.1 in let s₂ = s.2 in
      let w = get_or-set_same ws p g 0 low in
      let u = unlisted g (tally g ws ls ss hs p) r (omega arith) (λ e. omega arith) (λ e. omega arith) in
      let a = times_erase p h.sweeping has in let b = times_end p h.held in let c = times_end p h.swept in let m = r.waiting in
      turned g ws os ls ss hs n h h' at k p ws' ls' (length-set ws p g) (λ q o. get_or-set_other ws p q g 0 o)
      (λ _. both_owned (get_or ws' p 0) (get_or ws p 0) (omega arith) (omega arith)) (changed_alike p keep_marked (λ l. record { page = refl; pages = refl; class = refl }) ls)
      (objects_changed p keep_marked ls (λ f. record { kept = λ x e. e; allocated = λ x e. f.allocated x (f.kept x e) }) k.objects)
      record { sweeping = λ q o. times_erase_else q p h.sweeping o; held = λ q o. times_end_else q p h.held o; cached = λ q o. refl; popped = λ q o. refl; swept = λ q o. times_end_else q p h.swept o }
      refl refl (λ x e. let z = (k.sets_fit.claim n h at x e).held in let y = times_append x.page h.held (p ∷ []) in omega arith)
      (λ _. record {
        standing = is_swept w (omega arith) (omega arith);
        waiting = omega arith;
        listed = omega arith;
        listed_word = λ l. inr (inl w);
      })
