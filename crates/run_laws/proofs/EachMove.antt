-- All moves keep a cycle under way: one law.
use Rattle.std.proofs.Common.{◌≡◌, ℕ, ◌∷◌, sym, ◌∙◌, subst}
use Rattle.std.specs.Prelude.{None}
use Rattle.page_alloc.specs.Lists.{In}
use Rattle.page_alloc.specs.Lives.{Life}
use Rattle.sweep_laws.specs.declared.moves.Move.{Move}
use Rattle.sweep_laws.specs.declared.moves.Move.TheVariants.{Lock, Unlock, Take, Give, Acquire, Release, Cache, Allocate, Uncache, StaleUncache, Claim, Fill, PopSwept, PopUnswept, DropPopped, Pull, Cut, Drop, Next}
use Rattle.sweep_laws.specs.Reading.{hand_of}
use Rattle.sweep_laws.specs.NeedsOfRange.{refusal}
use Rattle.sweep_laws.specs.Needs.{fill_needs, allocate_needs}
use Rattle.sweep_laws.specs.Changes.{after_release, after_allocate as core_allocate}
use Rattle.sweep_laws.specs.Owned.{Owned}
use Rattle.sweep_laws.specs.State.{CoreState}
use Rattle.sweep_laws.specs.Step.{needs_of, after}
use Rattle.sweep_laws.proofs.NeedsMet.{all_met, some_there}
use Rattle.worker_log.specs.declared.Placing.{Placing}
use Rattle.worker_log.specs.declared.Sweeping.{Sweeping}
use Rattle.worker_log.specs.declared.Entry.TheVariants.{Swept}
use Rattle.run_laws.specs.CycleSoFar.{CycleSoFar}
use Rattle.run_laws.specs.PlacingFacts.{IsIn}
use Rattle.run_laws.specs.Keeping.{HasOneOf}
use Rattle.run_laws.specs.Shown.{has_of}
use Rattle.run_laws.specs.Steps.{put, after_allocate}
use Rattle.run_laws.specs.ShowsCycle.{ShowsCycle}
use Rattle.run_laws.specs.ShowsBlocks.{ShowsBlocks}
use Rattle.run_laws.specs.GoesOn.{GoesOn}
use Rattle.run_laws.proofs.Moves.{lock-shows, unlock-shows, acquire-shows, stale_uncache-shows, release-shows, cache-shows, uncache-shows, claim-shows, fill-shows, pop_swept-shows, pop_unswept-shows, drop_popped-shows, allocate-shows, take-shows, give-shows, pull-shows, cut-shows, drop-shows}
use Rattle.run_laws.proofs.Turns.{next-shows}

module _ (region goal : ℕ) (c : CoreState) (e : CycleSoFar) (now : ShowsCycle region goal c e) (blocks : ShowsBlocks c e) (o : Owned c) where
  -- the cycle so far after a sweep, by the page alone
  abbrev swept_at : ℕ → Sweeping → ℕ → CycleSoFar
  swept_at w s q = record { cycle = e.cycle; before = e.before; lines = e.lines; known = e.known; carried = e.carried; marks = e.marks; bits = put e.bits q (e.marks q); logs = put e.logs w (Swept s ∷ e.logs w); news = e.news; notes = e.notes }

  placed : (w p i : ℕ) (life : Life) (a : Placing) → refusal (allocate_needs c w p i) ≡ None → a.page ≡ p → a.index ≡ i → In life e.known → IsIn a life → life.number ≡ a.number → HasOneOf e (has_of c) w a.class p
      → ShowsCycle region goal (core_allocate c p i) (after_allocate e w a)
  placed w p i life a met page index here is number one =
      let met' : refusal (allocate_needs c w a.page a.index) ≡ None = subst (λ (x : ℕ × ℕ). refusal (allocate_needs c w x.0 x.1) ≡ None) (λ j. (sym page j, sym index j)) met in
      let one' : HasOneOf e (has_of c) w a.class a.page = subst (λ (q : ℕ). HasOneOf e (has_of c) w a.class q) (sym page) one in
      subst (λ (x : ℕ × ℕ). ShowsCycle region goal (core_allocate c x.0 x.1) (after_allocate e w a)) (λ j. (page j, index j)) (allocate-shows region goal c e now blocks o w life a met' here is number one')

  pub move-shows : (move : Move) (next : CycleSoFar) → refusal (needs_of c move) ≡ None → GoesOn region goal c e move next → ShowsCycle region goal (after c move) next
  move-shows (Lock w) next met on = subst (ShowsCycle region goal _) (sym on) (lock-shows region goal c e now blocks o w)
  move-shows (Unlock w) next met on = subst (ShowsCycle region goal _) (sym on) (unlock-shows region goal c e now blocks o)
  move-shows (Take w p pages count class) next met on = subst (ShowsCycle region goal _) (sym on.2) (take-shows region goal c e now blocks o w p pages count class met on.0 on.1)
  move-shows (Give w p) next met on = subst (ShowsCycle region goal _) (sym on.2) (give-shows region goal c e now blocks o w p met on.0 on.1)
  move-shows (Acquire w p) next met on = subst (ShowsCycle region goal _) (sym on) (acquire-shows region goal c e now blocks o w p met)
  move-shows (Release w p) next met on =
      let done = release-shows region goal c e now blocks o w p on.1 met on.3 in
      let there : ShowsCycle region goal (after_release c w p) (swept_at w on.1 done.0.page) = done.2 in
      let here : ShowsCycle region goal (after_release c w p) (swept_at w on.1 on.0.page) = subst (λ (q : ℕ). ShowsCycle region goal (after_release c w p) (swept_at w on.1 q)) (done.1 ∙ sym on.2) there in
      subst (ShowsCycle region goal _) (sym on.4) here
  move-shows (Cache w p) next met on = subst (ShowsCycle region goal _) (sym on) (cache-shows region goal c e now blocks o w p met)
  move-shows (Allocate w p i) next met on = subst (ShowsCycle region goal _) (sym on.8) (placed w p i on.0 on.1 met on.2 on.3 on.4 on.5 on.6 on.7)
  move-shows (Uncache w p) next met on = subst (ShowsCycle region goal _) (sym on) (uncache-shows region goal c e now blocks o w p met)
  move-shows (StaleUncache w p) next met on = subst (ShowsCycle region goal _) (sym on) (stale_uncache-shows region goal c e now blocks o w p met)
  move-shows (Claim w s p) next met on = subst (ShowsCycle region goal _) (sym on) (claim-shows region goal c e now blocks o w s p met)
  move-shows (Fill w) next met on =
      let m = all_met (fill_needs c w) met in
      let t = some_there (hand_of c w).claimed m.1.0 in
      subst (ShowsCycle region goal _) (sym on.1) (fill-shows region goal c e now blocks o w t.0 met t.1 (on.0 t.0 t.1))
  move-shows (PopSwept w s) next met on = subst (ShowsCycle region goal _) (sym on) (pop_swept-shows region goal c e now blocks o w s met)
  move-shows (PopUnswept w s) next met on = subst (ShowsCycle region goal _) (sym on) (pop_unswept-shows region goal c e now blocks o w s met)
  move-shows (DropPopped w p) next met on = subst (ShowsCycle region goal _) (sym on) (drop_popped-shows region goal c e now blocks o w p met)
  move-shows (Pull w) next met on = subst (ShowsCycle region goal _) (sym on.3) (pull-shows region goal c e now blocks o w on.0 on.1 met on.2)
  move-shows (Cut w p pages count class) next met on = subst (ShowsCycle region goal _) (sym on.3) (cut-shows region goal c e now blocks o w on.0.number p pages count class met on.2)
  move-shows (Drop w) next met on = subst (ShowsCycle region goal _) (sym on.3) (drop-shows region goal c e now blocks o w on.0 met on.2)
  move-shows (Next marks) next met on = subst (ShowsCycle region goal _) (sym on.1) (next-shows region goal c e now blocks on.0 o marks met)
