-- Pull and Drop keep the rule.
use Rattle.std.proofs.Common.{◌≡◌, ℕ, ◌+◌, ◌<◌, ◌≤◌, List, [], length, set, refl, arith}
use Rattle.std.specs.Prelude.{Option}
use mathlib.Core.Logic.{dite}
use native.Mathlib.Decide.{dec_le}
use mathlib.Core.Option.{some}
use lib.ListN.{get_elem?}
use Rattle.sweep_laws.specs.State.{LifeState, SetState, HandState}
use Rattle.sweep_laws.specs.ChangesOfHands.{pull_pages, drop_pulled}
use Rattle.sweep_laws.specs.Counts.{times}
use Rattle.sweep_laws.specs.Named.{covers, pullers}
use Rattle.sweep_laws.specs.OwnedLives.{PulledApart}
use Rattle.sweep_laws.specs.Standing.{Kept}
use Rattle.sweep_laws.proofs.Lives.{same_alike}
use Rattle.sweep_laws.proofs.Deltas.{deltas}
use Rattle.sweep_laws.proofs.Turned.{turned_pulled}

module _ (g : ℕ) (ws : List ℕ) (os : List (Option ℕ)) (ls : List LifeState) (ss : List SetState) (hs : List HandState) (k : Kept g ws os ls ss hs) (n : ℕ) (h : HandState) (at : get_elem? hs n ≡ some h) where
  -- a hand has other pages pulled
  pulled_keeps : (xs : List ℕ) → PulledApart ls (set hs n (pull_pages xs h)) → Kept g ws os ls ss (set hs n (pull_pages xs h))
  pulled_keeps xs apart = turned_pulled g ws os ls ss hs n h (pull_pages xs h) at k (length ws) ws ls refl (λ q o. refl) (λ _. refl) (same_alike ls) k.objects
      record { sweeping = λ q o. refl; held = λ q o. refl; cached = λ q o. refl; popped = λ q o. refl; swept = λ q o. refl }
      apart refl (λ d e. (k.sets_fit.claim n h at d e).held) (λ l. absurd (omega arith))

  pub pull_keeps : (xs : List ℕ) → h.pulled ≡ [] → ((q : ℕ) → times q xs ≤ 1) → ((q : ℕ) → 0 < times q xs → covers q ls + pullers q hs ≡ 0) → Kept g ws os ls ss (set hs n (pull_pages xs h))
  pull_keeps xs none once free = pulled_keeps xs (λ q. let d = (deltas hs n h (pull_pages xs h) at q).pulled in let r = k.pulled q in let o = once q in
      dite (dec_le 1 (times q xs)) (λ l. let f = free q (omega arith) in omega arith) (λ l. omega arith))

  pub drop_keeps : Kept g ws os ls ss (set hs n (drop_pulled h))
  drop_keeps = pulled_keeps [] (λ q. let d = (deltas hs n h (drop_pulled h) at q).pulled in let r = k.pulled q in omega arith)
