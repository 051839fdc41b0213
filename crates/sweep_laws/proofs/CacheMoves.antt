-- Cache, Uncache and StaleUncache keep the rule.
use Rattle.std.proofs.Common.{◌≡◌, ℕ, ◌+◌, ◌-◌, ◌<◌, inl, inr, List, [], ◌∷◌, length, set, get_or, sym, refl, ◌∙◌, arith, length-set, get_or-set_other, get_or-set_same}
use Rattle.std.specs.Prelude.{Option, None}
use mathlib.Core.Option.{some}
use lib.ListN.{get_elem?}
use Rattle.sweep_laws.specs.State.{LifeState, SetState, HandState}
use Rattle.sweep_laws.specs.ChangesOfHands.{put_in_cache, take_from_cache, sweep_from_cache}
use Rattle.sweep_laws.specs.Counts.{times}
use Rattle.sweep_laws.specs.Standing.{tally, is_sweeping, is_swept, is_cached, Kept}
use Rattle.sweep_laws.proofs.Totals.{times_append, times_end, times_end_else}
use Rattle.sweep_laws.proofs.Naming.{times_erase, times_erase_else}
use Rattle.sweep_laws.proofs.Lives.{same_alike}
use Rattle.sweep_laws.proofs.Standings.{held_list, cached_list}
use Rattle.sweep_laws.proofs.NeedsMet.{some_none}
use Rattle.sweep_laws.proofs.Deltas.{deltas, parts, both_owned, unlisted}
use Rattle.sweep_laws.proofs.Turned.{turned}

module _ (g : ℕ) (ws : List ℕ) (os : List (Option ℕ)) (ls : List LifeState) (ss : List SetState) (hs : List HandState) (k : Kept g ws os ls ss hs) (n : ℕ) (h : HandState) (at : get_elem? hs n ≡ some h) (p : ℕ) (low : p < length ws) where
  pub cache_keeps : 0 < times p h.held → h.claimed ≡ None → Kept g (set ws p (g + 3)) os ls ss (set hs n (put_in_cache p h))
  cache_keeps has none_claimed = let h' : HandState = put_in_cache p h in let ws' = set ws p (g + 3) in
      let d = deltas hs n h h' at p in let r = k.page p low in let old = k.generation.low in let i = parts hs n h at p in
      let s = held_list g (tally g ws ls ss hs p) r.standing (omega arith) in let s₀ = s.0 in let s₁ = s.1 in let s₂ = s.2 in
      let w = get_or-set_same ws p (g + 3) 0 low in
      let a = times_erase p h.held has in let b = times_end p h.cached in
      turned g ws os ls ss hs n h h' at k p ws' ls (length-set ws p (g + 3)) (λ q o. get_or-set_other ws p q (g + 3) 0 o)
      (λ _. both_owned (get_or ws' p 0) (get_or ws p 0) (omega arith) (omega arith)) (same_alike ls) k.objects
      record { sweeping = λ q o. refl; held = λ q o. times_erase_else q p h.held o; cached = λ q o. times_end_else q p h.cached o; popped = λ q o. refl; swept = λ q o. refl }
      refl refl (λ x e. absurd (some_none x (sym e ∙ none_claimed)))
      (λ _. record {
        standing = is_cached w (omega arith) (omega arith);
        waiting = let m = r.waiting in omega arith;
        listed = let m = r.listed in omega arith;
        listed_word = λ l. inr (inr w);
      })

  pub uncache_keeps : 0 < times p h.cached → get_or ws p 0 ≡ g + 3 → Kept g (set ws p g) os ls ss (set hs n (take_from_cache p h))
  uncache_keeps has word = let h' : HandState = take_from_cache p h in let ws' = set ws p g in
      let d = deltas hs n h h' at p in let r = k.page p low in let old = k.generation.low in let i = parts hs n h at p in
      let s = cached_list g (tally g ws ls ss hs p) r.standing (omega arith) in let s₁ = s.1 in let s₂ = s.2 in
      let w = get_or-set_same ws p g 0 low in
      let a = times_erase p h.cached has in let b = times_end p h.held in
      turned g ws os ls ss hs n h h' at k p ws' ls (length-set ws p g) (λ q o. get_or-set_other ws p q g 0 o)
      (λ _. both_owned (get_or ws' p 0) (get_or ws p 0) (omega arith) (omega arith)) (same_alike ls) k.objects
      record { sweeping = λ q o. refl; held = λ q o. times_end_else q p h.held o; cached = λ q o. times_erase_else q p h.cached o; popped = λ q o. refl; swept = λ q o. refl }
      refl refl (λ x e. let z = (k.sets_fit.claim n h at x e).held in let y = times_append x.page h.held (p ∷ []) in omega arith)
      (λ _. record {
        standing = is_swept w (omega arith) (omega arith);
        waiting = let m = r.waiting in omega arith;
        listed = let m = r.listed in omega arith;
        listed_word = λ l. inr (inl w);
      })

  pub stale_uncache_keeps : 0 < times p h.cached → get_or ws p 0 ≡ g + 1 → Kept g (set ws p (g - 1)) os ls ss (set hs n (sweep_from_cache p h))
  stale_uncache_keeps has word = let h' : HandState = sweep_from_cache p h in let ws' = set ws p (g - 1) in
      let d = deltas hs n h h' at p in let r = k.page p low in let old = k.generation.low in let i = parts hs n h at p in
      let s = cached_list g (tally g ws ls ss hs p) r.standing (omega arith) in let s₁ = s.1 in let s₂ = s.2 in
      let w = get_or-set_same ws p (g - 1) 0 low in
      let u = unlisted g (tally g ws ls ss hs p) r (omega arith) (λ e. omega arith) (λ e. omega arith) in
      let a = times_erase p h.cached has in let b = times_end p h.sweeping in
      turned g ws os ls ss hs n h h' at k p ws' ls (length-set ws p (g - 1)) (λ q o. get_or-set_other ws p q (g - 1) 0 o)
      (λ _. both_owned (get_or ws' p 0) (get_or ws p 0) (omega arith) (omega arith)) (same_alike ls) k.objects
      record { sweeping = λ q o. times_end_else q p h.sweeping o; held = λ q o. refl; cached = λ q o. times_erase_else q p h.cached o; popped = λ q o. refl; swept = λ q o. refl }
      refl refl (λ x e. (k.sets_fit.claim n h at x e).held)
      (λ _. record {
        standing = is_sweeping (omega arith) (omega arith) (omega arith);
        waiting = let m = r.waiting in omega arith;
        listed = omega arith;
        listed_word = λ l. absurd (omega arith);
      })
