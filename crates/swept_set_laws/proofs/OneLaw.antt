-- All moves keep what the swept sets name: one law.
use Rattle.std.proofs.Common.{◌≡◌, ℕ, List, length, sym, subst}
use Rattle.std.specs.Prelude.{None}
use Rattle.sweep_laws.specs.declared.moves.Move.{Move}
use Rattle.sweep_laws.specs.declared.moves.Move.TheVariants.{Lock, Unlock, Take, Give, Acquire, Release, Cache, Allocate, Uncache, StaleUncache, Claim, Fill, PopSwept, PopUnswept, DropPopped, Pull, Cut, Drop, Next}
use Rattle.sweep_laws.specs.Reading.{set_of}
use Rattle.sweep_laws.specs.NeedsOfRange.{refusal}
use Rattle.sweep_laws.specs.Changes.{after_claim}
use Rattle.sweep_laws.specs.Owned.{Owned}
use Rattle.sweep_laws.specs.State.{CoreState}
use Rattle.sweep_laws.specs.Step.{needs_of, after}
use Rattle.worker_log.specs.declared.Entry.{Entry}
use Rattle.swept_set_laws.specs.Entered.{EnteredIn}
use Rattle.swept_set_laws.specs.NamesGoOn.{NamesGoOn, SamePops, put_name}
use Rattle.swept_set_laws.proofs.EachMove.{entered_logs, logs_keep_names, acquire_keeps_names, release_keeps_names, cache_keeps_names, uncache_keeps_names, stale_uncache_keeps_names, take_keeps_names, give_keeps_names, drop_popped_keeps_names, pull_keeps_names, cut_keeps_names, drop_keeps_names, pop_unswept_keeps_names, allocate_keeps_names, claim_keeps_names, fill_keeps_names, pop_swept_keeps_names, next_keeps_names}

-- other logs with the same pops in any state of this generation
in_logs : (g : ℕ) (c : CoreState) (logs logs' : List (List Entry)) (names : ℕ → ℕ → ℕ) → c.generation ≡ g → SamePops g logs' logs → EnteredIn c logs names → EnteredIn c logs' names
in_logs g c logs logs' names same pops e = entered_logs c.generation (length c.words) c.words c.lives c.sets c.hands logs logs' names (subst (λ (h : ℕ). SamePops h logs' logs) (sym same) pops) e

module _ (c : CoreState) (o : Owned c) (logs : List (List Entry)) (names : ℕ → ℕ → ℕ) (e : EnteredIn c logs names) (logs' : List (List Entry)) (names' : ℕ → ℕ → ℕ) where
  pub move_keeps_names : (move : Move) → refusal (needs_of c move) ≡ None → NamesGoOn c logs names move logs' names' → EnteredIn (after c move) logs' names'
  move_keeps_names (Lock w) met on = subst (λ (n : ℕ → ℕ → ℕ). EnteredIn (after c (Lock w)) logs' n) (sym on.1) (logs_keep_names c o logs names e logs' on.0)
  move_keeps_names (Unlock w) met on = subst (λ (n : ℕ → ℕ → ℕ). EnteredIn (after c (Unlock w)) logs' n) (sym on.1) (logs_keep_names c o logs names e logs' on.0)
  move_keeps_names (Take w p pages count class) met on = subst (λ (n : ℕ → ℕ → ℕ). EnteredIn (after c (Take w p pages count class)) logs' n) (sym on.1) (take_keeps_names c o logs names e logs' on.0 w p pages count class met)
  move_keeps_names (Give w p) met on = subst (λ (n : ℕ → ℕ → ℕ). EnteredIn (after c (Give w p)) logs' n) (sym on.1) (give_keeps_names c o logs names e logs' on.0 w p met)
  move_keeps_names (Acquire w p) met on = subst (λ (n : ℕ → ℕ → ℕ). EnteredIn (after c (Acquire w p)) logs' n) (sym on.1) (acquire_keeps_names c o logs names e logs' on.0 w p met)
  move_keeps_names (Release w p) met on = subst (λ (n : ℕ → ℕ → ℕ). EnteredIn (after c (Release w p)) logs' n) (sym on.1) (release_keeps_names c o logs names e logs' on.0 w p met)
  move_keeps_names (Cache w p) met on = subst (λ (n : ℕ → ℕ → ℕ). EnteredIn (after c (Cache w p)) logs' n) (sym on.1) (cache_keeps_names c o logs names e logs' on.0 w p met)
  move_keeps_names (Allocate w p i) met on = subst (λ (n : ℕ → ℕ → ℕ). EnteredIn (after c (Allocate w p i)) logs' n) (sym on.1) (allocate_keeps_names c o logs names e logs' on.0 w p i met)
  move_keeps_names (Uncache w p) met on = subst (λ (n : ℕ → ℕ → ℕ). EnteredIn (after c (Uncache w p)) logs' n) (sym on.1) (uncache_keeps_names c o logs names e logs' on.0 w p met)
  move_keeps_names (StaleUncache w p) met on = subst (λ (n : ℕ → ℕ → ℕ). EnteredIn (after c (StaleUncache w p)) logs' n) (sym on.1) (stale_uncache_keeps_names c o logs names e logs' on.0 w p met)
  move_keeps_names (PopUnswept w s) met on = subst (λ (n : ℕ → ℕ → ℕ). EnteredIn (after c (PopUnswept w s)) logs' n) (sym on.1) (pop_unswept_keeps_names c o logs names e logs' on.0 w s met)
  move_keeps_names (DropPopped w p) met on = subst (λ (n : ℕ → ℕ → ℕ). EnteredIn (after c (DropPopped w p)) logs' n) (sym on.1) (drop_popped_keeps_names c o logs names e logs' on.0 w p met)
  move_keeps_names (Pull w) met on = subst (λ (n : ℕ → ℕ → ℕ). EnteredIn (after c (Pull w)) logs' n) (sym on.1) (pull_keeps_names c o logs names e logs' on.0 w met)
  move_keeps_names (Cut w p pages count class) met on = subst (λ (n : ℕ → ℕ → ℕ). EnteredIn (after c (Cut w p pages count class)) logs' n) (sym on.1) (cut_keeps_names c o logs names e logs' on.0 w p pages count class met)
  move_keeps_names (Drop w) met on = subst (λ (n : ℕ → ℕ → ℕ). EnteredIn (after c (Drop w)) logs' n) (sym on.1) (drop_keeps_names c o logs names e logs' on.0 w met)
  move_keeps_names (Claim w s p) met on = subst (λ (n : ℕ → ℕ → ℕ). EnteredIn (after c (Claim w s p)) logs' n) (sym on.2)
      (in_logs c.generation (after_claim c w s p) logs logs' (put_name names s (set_of c s).tail p) (λ i. c.generation) on.1 (claim_keeps_names c o logs names e w s p met on.0))
  move_keeps_names (Fill w) met on = subst (λ (n : ℕ → ℕ → ℕ). EnteredIn (after c (Fill w)) logs' n) (sym on.1)
      (fill_keeps_names c o logs' names (logs_keep_names c o logs names e logs' on.0) w met)
  move_keeps_names (PopSwept w s) met on = subst (λ (n : ℕ → ℕ → ℕ). EnteredIn (after c (PopSwept w s)) logs' n) (sym on.1) (pop_swept_keeps_names c o logs names e w s logs' met on.0)
  move_keeps_names (Next marks) met on = next_keeps_names c o marks logs' names' met on
