-- For each fact of the ownership rule a state by hand that breaks that fact alone.
use Rattle.std.proofs.Common.{◌≡◌, ◌≢◌, ℕ, zero, suc, ◌+◌, ◌<◌, ◌≤◌, ◌⊎◌, inl, inr, ⊎_elim, Bool, true, false, true≢false, [], ◌∷◌, length, sym, refl, ◌∙◌, subst, arith}
use Rattle.std.specs.Prelude.{Some, None}
use mathlib.Core.Option.{some, some-injective, some-ne-none}
use lib.ListN.{get_elem?}
use Rattle.sweep_laws.specs.State.{LifeState, HandState, CoreState}
use Rattle.sweep_laws.specs.Counts.{one_if}
use Rattle.sweep_laws.specs.Named.{claimers, is_covered, covers, is_class}
use Rattle.sweep_laws.specs.OwnedLives.{ObjectsFit}
use Rattle.sweep_laws.specs.OwnedSets.{IsPage}
use Rattle.sweep_laws.specs.OwnedPages.{NamesOnce}
use Rattle.sweep_laws.specs.Owned.{Owned, LivesAreApart, FreeIsNobodys, UnsweptIsQueued, SweepingIsOnes, SweptIsOnes, CachedIsOnes, NamedOnce, SetsAreFilled, SweptOnce, ObjectsAreKept}
use Rattle.sweep_laws.proofs.NeedsMet.{some_none}

-- the facts by their numbers, from 1 to 10
abbrev pub fact : ℕ → CoreState → Type 0
fact zero c = Unit {0}
fact (suc zero) c = LivesAreApart c
fact (suc (suc zero)) c = FreeIsNobodys c
fact (suc (suc (suc zero))) c = UnsweptIsQueued c
fact (suc (suc (suc (suc zero)))) c = SweepingIsOnes c
fact (suc (suc (suc (suc (suc zero))))) c = SweptIsOnes c
fact (suc (suc (suc (suc (suc (suc zero)))))) c = CachedIsOnes c
fact (suc (suc (suc (suc (suc (suc (suc zero))))))) c = NamedOnce c
fact (suc (suc (suc (suc (suc (suc (suc (suc zero)))))))) c = SetsAreFilled c
fact (suc (suc (suc (suc (suc (suc (suc (suc (suc zero))))))))) c = SweptOnce c
fact (suc (suc (suc (suc (suc (suc (suc (suc (suc (suc zero)))))))))) c = ObjectsAreKept c
fact (suc (suc (suc (suc (suc (suc (suc (suc (suc (suc (suc n))))))))))) c = Unit {0}

-- a state has all facts but one
pub record BreaksAlone (k : ℕ) (c : CoreState) : Type 0 where
  pub broken : fact k c → ⊥
  pub others : (j : ℕ) → j ≢ k → fact j c

others_of : (k : ℕ) (c : CoreState)
    → (1 ≢ k → fact 1 c)
    → (2 ≢ k → fact 2 c)
    → (3 ≢ k → fact 3 c)
    → (4 ≢ k → fact 4 c)
    → (5 ≢ k → fact 5 c)
    → (6 ≢ k → fact 6 c)
    → (7 ≢ k → fact 7 c)
    → (8 ≢ k → fact 8 c)
    → (9 ≢ k → fact 9 c)
    → (10 ≢ k → fact 10 c)
    → (j : ℕ) → j ≢ k → fact j c
others_of k c f1 f2 f3 f4 f5 f6 f7 f8 f9 f10 zero n = tt
others_of k c f1 f2 f3 f4 f5 f6 f7 f8 f9 f10 (suc zero) n = f1 n
others_of k c f1 f2 f3 f4 f5 f6 f7 f8 f9 f10 (suc (suc zero)) n = f2 n
others_of k c f1 f2 f3 f4 f5 f6 f7 f8 f9 f10 (suc (suc (suc zero))) n = f3 n
others_of k c f1 f2 f3 f4 f5 f6 f7 f8 f9 f10 (suc (suc (suc (suc zero)))) n = f4 n
others_of k c f1 f2 f3 f4 f5 f6 f7 f8 f9 f10 (suc (suc (suc (suc (suc zero))))) n = f5 n
others_of k c f1 f2 f3 f4 f5 f6 f7 f8 f9 f10 (suc (suc (suc (suc (suc (suc zero)))))) n = f6 n
others_of k c f1 f2 f3 f4 f5 f6 f7 f8 f9 f10 (suc (suc (suc (suc (suc (suc (suc zero))))))) n = f7 n
others_of k c f1 f2 f3 f4 f5 f6 f7 f8 f9 f10 (suc (suc (suc (suc (suc (suc (suc (suc zero)))))))) n = f8 n
others_of k c f1 f2 f3 f4 f5 f6 f7 f8 f9 f10 (suc (suc (suc (suc (suc (suc (suc (suc (suc zero))))))))) n = f9 n
others_of k c f1 f2 f3 f4 f5 f6 f7 f8 f9 f10 (suc (suc (suc (suc (suc (suc (suc (suc (suc (suc zero)))))))))) n = f10 n
others_of k c f1 f2 f3 f4 f5 f6 f7 f8 f9 f10 (suc (suc (suc (suc (suc (suc (suc (suc (suc (suc (suc j))))))))))) n = tt

abbrev pub no_core : CoreState
no_core = record { generation = 4; words = []; owners = []; lives = []; sets = []; lock = None; hands = []; room = 0; prepared = 0 }

abbrev pub idle_hand : HandState
idle_hand = record { sweeping = []; held = []; cached = []; popped = []; claimed = None; swept = []; pulled = [] }

abbrev pub one_life : LifeState
one_life = record { page = 0; pages = 1; count = 1; class = 0; allocated = []; kept = [] }

-- one page, at which a life begins, and one worker
abbrev one_page : ℕ → LifeState → HandState → CoreState
one_page word l h = record no_core { words = word ∷ []; owners = Some 0 ∷ []; lives = l ∷ []; hands = h ∷ [] }

first : (w p : ℕ) → p < length (w ∷ []) → p ≡ 0
first w p low = omega arith

only_hand : (h : HandState) (P : ℕ → HandState → Type 0) → P 0 h → (n : ℕ) (x : HandState) → get_elem? (h ∷ []) n ≡ some x → P n x
only_hand h P x zero a e = subst (P 0) (some-injective h a e) x
only_hand h P x (suc n) a e = absurd (some-ne-none a (sym e))

one_covers : (p : ℕ) (l : LifeState) → covers p (l ∷ []) ≤ 1
one_covers p l = go (is_covered p l)
  where
    go : (b : Bool) → one_if b + 0 ≤ 1
    go true = omega arith
    go false = omega arith

no_objects : ObjectsFit one_life
no_objects = record { kept = λ i e. absurd (omega arith); allocated = λ i e. absurd (omega arith) }

-- 1. the generation is odd
abbrev pub odd_generation : CoreState
odd_generation = record no_core { generation = 5 }

pub odd_generation_breaks : BreaksAlone 1 odd_generation
odd_generation_breaks = record {
  broken = λ f. let e = f.generation.even in let z : ⊥ = omega arith in z;
  others = others_of 1 odd_generation
      (λ n. absurd (n refl))
      (λ _ p low. absurd (omega arith))
      (λ _ p low. absurd (omega arith))
      (λ _ p low. absurd (omega arith))
      (λ _ p low. absurd (omega arith))
      (λ _ p low. absurd (omega arith))
      (λ _. record { lists = λ p low. absurd (omega arith); entries = λ p low. absurd (omega arith) })
      (λ _. record { order = λ k s e. absurd (some-ne-none s (sym e)); beyond = λ k s e. absurd (some-ne-none s (sym e)); unswept_cell = λ k s e. absurd (some-ne-none s (sym e)); swept_cell = λ k s e. absurd (some-ne-none s (sym e)); claim = λ n h e. absurd (some-ne-none h (sym e)) })
      (λ _. record { once = λ p low. absurd (omega arith); word = λ p low. absurd (omega arith) })
      (λ _. tt);
}

-- 2. a hand sweeps a page that no life has
abbrev pub swept_free_page : CoreState
swept_free_page = record no_core { words = 0 ∷ []; owners = None ∷ []; hands = record idle_hand { sweeping = 0 ∷ [] } ∷ [] }

pub swept_free_page_breaks : BreaksAlone 2 swept_free_page
swept_free_page_breaks = record {
  broken = λ f. let e = f 0 (omega arith) refl in let z : ⊥ = omega arith in z;
  others = others_of 2 swept_free_page
      (λ _. record { generation = record { even = refl; low = omega arith; high = omega arith }; lives = record { entries = refl; word = λ p low. rw (first 0 p low) (inl refl); begin = λ p low. rw (first 0 p low) refl; owner_is = λ p low. rw (first 0 p low) refl; apart = λ p. omega arith; whole = tt }; pulled = λ p. omega arith })
      (λ n. absurd (n refl))
      (λ _ p low. rw (first 0 p low) (λ e. absurd (omega arith)))
      (λ _ p low. rw (first 0 p low) (λ e. absurd (omega arith)))
      (λ _ p low. rw (first 0 p low) (λ e. absurd (omega arith)))
      (λ _ p low. rw (first 0 p low) (λ e. absurd (⊎_elim (λ (x : 0 ≡ 5). let z : ⊥ = omega arith in z) (λ (x : 0 ≡ 7). let z : ⊥ = omega arith in z) e)))
      (λ _. record { lists = λ p low. rw (first 0 p low) (only_hand (record idle_hand { sweeping = 0 ∷ [] }) (λ n x. NamesOnce 0 x) record { sweeping = omega arith; held = omega arith; cached = omega arith; popped = omega arith; swept = omega arith }); entries = λ p low. omega arith })
      (λ _. record { order = λ k s e. absurd (some-ne-none s (sym e)); beyond = λ k s e. absurd (some-ne-none s (sym e)); unswept_cell = λ k s e. absurd (some-ne-none s (sym e)); swept_cell = λ k s e. absurd (some-ne-none s (sym e)); claim = λ n x e d c. absurd (some_none d (sym c ∙ only_hand (record idle_hand { sweeping = 0 ∷ [] }) (λ m y. y.claimed ≡ None) refl n x e)) })
      (λ _. record { once = λ p low. omega arith; word = λ p low e. absurd (omega arith) })
      (λ _. tt);
}

-- 3. nothing names a page that is to be swept
abbrev pub lost_page : CoreState
lost_page = one_page 2 (one_life) (idle_hand)

pub lost_page_breaks : BreaksAlone 3 lost_page
lost_page_breaks = record {
  broken = λ f. let e = (f 0 (omega arith) refl).once in let z : ⊥ = omega arith in z;
  others = others_of 3 lost_page
      (λ _. record { generation = record { even = refl; low = omega arith; high = omega arith }; lives = record { entries = refl; word = λ p low. rw (first 2 p low) (inr (inl refl)); begin = λ p low. rw (first 2 p low) refl; owner_is = λ p low. rw (first 2 p low) refl; apart = λ p. one_covers p (one_life); whole = (omega arith, tt) }; pulled = λ p. let z = one_covers p (one_life) in omega arith })
      (λ _ p low. rw (first 2 p low) (λ e. absurd (omega arith)))
      (λ n. absurd (n refl))
      (λ _ p low. rw (first 2 p low) (λ e. absurd (omega arith)))
      (λ _ p low. rw (first 2 p low) (λ e. absurd (omega arith)))
      (λ _ p low. rw (first 2 p low) (λ e. absurd (⊎_elim (λ (x : 2 ≡ 5). let z : ⊥ = omega arith in z) (λ (x : 2 ≡ 7). let z : ⊥ = omega arith in z) e)))
      (λ _. record { lists = λ p low. rw (first 2 p low) (only_hand (idle_hand) (λ n x. NamesOnce 0 x) record { sweeping = omega arith; held = omega arith; cached = omega arith; popped = omega arith; swept = omega arith }); entries = λ p low. omega arith })
      (λ _. record { order = λ k s e. absurd (some-ne-none s (sym e)); beyond = λ k s e. absurd (some-ne-none s (sym e)); unswept_cell = λ k s e. absurd (some-ne-none s (sym e)); swept_cell = λ k s e. absurd (some-ne-none s (sym e)); claim = λ n x e d c. absurd (some_none d (sym c ∙ only_hand (idle_hand) (λ m y. y.claimed ≡ None) refl n x e)) })
      (λ _. record { once = λ p low. omega arith; word = λ p low e. absurd (omega arith) })
      (λ _. (no_objects, tt));
}

-- 4. no hand sweeps a page that is being swept
abbrev pub unswept_by_all : CoreState
unswept_by_all = one_page 3 (one_life) (idle_hand)

pub unswept_by_all_breaks : BreaksAlone 4 unswept_by_all
unswept_by_all_breaks = record {
  broken = λ f. let e = (f 0 (omega arith) refl).one in let z : ⊥ = omega arith in z;
  others = others_of 4 unswept_by_all
      (λ _. record { generation = record { even = refl; low = omega arith; high = omega arith }; lives = record { entries = refl; word = λ p low. rw (first 3 p low) (inr (inr (inl refl))); begin = λ p low. rw (first 3 p low) refl; owner_is = λ p low. rw (first 3 p low) refl; apart = λ p. one_covers p (one_life); whole = (omega arith, tt) }; pulled = λ p. let z = one_covers p (one_life) in omega arith })
      (λ _ p low. rw (first 3 p low) (λ e. absurd (omega arith)))
      (λ _ p low. rw (first 3 p low) (λ e. absurd (omega arith)))
      (λ n. absurd (n refl))
      (λ _ p low. rw (first 3 p low) (λ e. absurd (omega arith)))
      (λ _ p low. rw (first 3 p low) (λ e. absurd (⊎_elim (λ (x : 3 ≡ 5). let z : ⊥ = omega arith in z) (λ (x : 3 ≡ 7). let z : ⊥ = omega arith in z) e)))
      (λ _. record { lists = λ p low. rw (first 3 p low) (only_hand (idle_hand) (λ n x. NamesOnce 0 x) record { sweeping = omega arith; held = omega arith; cached = omega arith; popped = omega arith; swept = omega arith }); entries = λ p low. omega arith })
      (λ _. record { order = λ k s e. absurd (some-ne-none s (sym e)); beyond = λ k s e. absurd (some-ne-none s (sym e)); unswept_cell = λ k s e. absurd (some-ne-none s (sym e)); swept_cell = λ k s e. absurd (some-ne-none s (sym e)); claim = λ n x e d c. absurd (some_none d (sym c ∙ only_hand (idle_hand) (λ m y. y.claimed ≡ None) refl n x e)) })
      (λ _. record { once = λ p low. omega arith; word = λ p low e. absurd (omega arith) })
      (λ _. (no_objects, tt));
}

-- 5. nobody has a swept page
abbrev pub nobodys_page : CoreState
nobodys_page = one_page 4 (one_life) (idle_hand)

pub nobodys_page_breaks : BreaksAlone 5 nobodys_page
nobodys_page_breaks = record {
  broken = λ f. let e = (f 0 (omega arith) refl).one in let z : ⊥ = omega arith in z;
  others = others_of 5 nobodys_page
      (λ _. record { generation = record { even = refl; low = omega arith; high = omega arith }; lives = record { entries = refl; word = λ p low. rw (first 4 p low) (inr (inr (inr (inl refl)))); begin = λ p low. rw (first 4 p low) refl; owner_is = λ p low. rw (first 4 p low) refl; apart = λ p. one_covers p (one_life); whole = (omega arith, tt) }; pulled = λ p. let z = one_covers p (one_life) in omega arith })
      (λ _ p low. rw (first 4 p low) (λ e. absurd (omega arith)))
      (λ _ p low. rw (first 4 p low) (λ e. absurd (omega arith)))
      (λ _ p low. rw (first 4 p low) (λ e. absurd (omega arith)))
      (λ n. absurd (n refl))
      (λ _ p low. rw (first 4 p low) (λ e. absurd (⊎_elim (λ (x : 4 ≡ 5). let z : ⊥ = omega arith in z) (λ (x : 4 ≡ 7). let z : ⊥ = omega arith in z) e)))
      (λ _. record { lists = λ p low. rw (first 4 p low) (only_hand (idle_hand) (λ n x. NamesOnce 0 x) record { sweeping = omega arith; held = omega arith; cached = omega arith; popped = omega arith; swept = omega arith }); entries = λ p low. omega arith })
      (λ _. record { order = λ k s e. absurd (some-ne-none s (sym e)); beyond = λ k s e. absurd (some-ne-none s (sym e)); unswept_cell = λ k s e. absurd (some-ne-none s (sym e)); swept_cell = λ k s e. absurd (some-ne-none s (sym e)); claim = λ n x e d c. absurd (some_none d (sym c ∙ only_hand (idle_hand) (λ m y. y.claimed ≡ None) refl n x e)) })
      (λ _. record { once = λ p low. omega arith; word = λ p low e. absurd (omega arith) })
      (λ _. (no_objects, tt));
}

-- 6. no hand has a page cached that is cached
abbrev pub uncached_page : CoreState
uncached_page = one_page 5 (one_life) (idle_hand)

pub uncached_page_breaks : BreaksAlone 6 uncached_page
uncached_page_breaks = record {
  broken = λ f. let e = (f 0 (omega arith) (inl refl)).one in let z : ⊥ = omega arith in z;
  others = others_of 6 uncached_page
      (λ _. record { generation = record { even = refl; low = omega arith; high = omega arith }; lives = record { entries = refl; word = λ p low. rw (first 5 p low) (inr (inr (inr (inr (inl refl))))); begin = λ p low. rw (first 5 p low) refl; owner_is = λ p low. rw (first 5 p low) refl; apart = λ p. one_covers p (one_life); whole = (omega arith, tt) }; pulled = λ p. let z = one_covers p (one_life) in omega arith })
      (λ _ p low. rw (first 5 p low) (λ e. absurd (omega arith)))
      (λ _ p low. rw (first 5 p low) (λ e. absurd (omega arith)))
      (λ _ p low. rw (first 5 p low) (λ e. absurd (omega arith)))
      (λ _ p low. rw (first 5 p low) (λ e. absurd (omega arith)))
      (λ n. absurd (n refl))
      (λ _. record { lists = λ p low. rw (first 5 p low) (only_hand (idle_hand) (λ n x. NamesOnce 0 x) record { sweeping = omega arith; held = omega arith; cached = omega arith; popped = omega arith; swept = omega arith }); entries = λ p low. omega arith })
      (λ _. record { order = λ k s e. absurd (some-ne-none s (sym e)); beyond = λ k s e. absurd (some-ne-none s (sym e)); unswept_cell = λ k s e. absurd (some-ne-none s (sym e)); swept_cell = λ k s e. absurd (some-ne-none s (sym e)); claim = λ n x e d c. absurd (some_none d (sym c ∙ only_hand (idle_hand) (λ m y. y.claimed ≡ None) refl n x e)) })
      (λ _. record { once = λ p low. omega arith; word = λ p low e. absurd (omega arith) })
      (λ _. (no_objects, tt));
}

-- 7. a hand popped one page twice
abbrev pub popped_twice : CoreState
popped_twice = one_page 4 (one_life) (record idle_hand { held = 0 ∷ []; popped = 0 ∷ 0 ∷ [] })

pub popped_twice_breaks : BreaksAlone 7 popped_twice
popped_twice_breaks = record {
  broken = λ f. let e = f.entries 0 (omega arith) in let z : ⊥ = omega arith in z;
  others = others_of 7 popped_twice
      (λ _. record { generation = record { even = refl; low = omega arith; high = omega arith }; lives = record { entries = refl; word = λ p low. rw (first 4 p low) (inr (inr (inr (inl refl)))); begin = λ p low. rw (first 4 p low) refl; owner_is = λ p low. rw (first 4 p low) refl; apart = λ p. one_covers p (one_life); whole = (omega arith, tt) }; pulled = λ p. let z = one_covers p (one_life) in omega arith })
      (λ _ p low. rw (first 4 p low) (λ e. absurd (omega arith)))
      (λ _ p low. rw (first 4 p low) (λ e. absurd (omega arith)))
      (λ _ p low. rw (first 4 p low) (λ e. absurd (omega arith)))
      (λ _ p low. rw (first 4 p low) (λ e. record { one = refl; no_other = refl }))
      (λ _ p low. rw (first 4 p low) (λ e. absurd (⊎_elim (λ (x : 4 ≡ 5). let z : ⊥ = omega arith in z) (λ (x : 4 ≡ 7). let z : ⊥ = omega arith in z) e)))
      (λ n. absurd (n refl))
      (λ _. record { order = λ k s e. absurd (some-ne-none s (sym e)); beyond = λ k s e. absurd (some-ne-none s (sym e)); unswept_cell = λ k s e. absurd (some-ne-none s (sym e)); swept_cell = λ k s e. absurd (some-ne-none s (sym e)); claim = λ n x e d c. absurd (some_none d (sym c ∙ only_hand (record idle_hand { held = 0 ∷ []; popped = 0 ∷ 0 ∷ [] }) (λ m y. y.claimed ≡ None) refl n x e)) })
      (λ _. record { once = λ p low. omega arith; word = λ p low e. absurd (omega arith) })
      (λ _. (no_objects, tt));
}

-- 8. the head of a set is past its tail
abbrev pub head_past_tail : CoreState
head_past_tail = record no_core { sets = record { head = 1; tail = 0; cells = [] } ∷ [] }

pub head_past_tail_breaks : BreaksAlone 8 head_past_tail
head_past_tail_breaks = record {
  broken = λ f. let e = f.order 0 (record { head = 1; tail = 0; cells = [] }) refl in let z : ⊥ = omega arith in z;
  others = others_of 8 head_past_tail
      (λ _. record { generation = record { even = refl; low = omega arith; high = omega arith }; lives = record { entries = refl; word = λ p low. absurd (omega arith); begin = λ p low. absurd (omega arith); owner_is = λ p low. absurd (omega arith); apart = λ p. omega arith; whole = tt }; pulled = λ p. omega arith })
      (λ _ p low. absurd (omega arith))
      (λ _ p low. absurd (omega arith))
      (λ _ p low. absurd (omega arith))
      (λ _ p low. absurd (omega arith))
      (λ _ p low. absurd (omega arith))
      (λ _. record { lists = λ p low. absurd (omega arith); entries = λ p low. absurd (omega arith) })
      (λ n. absurd (n refl))
      (λ _. record { once = λ p low. absurd (omega arith); word = λ p low. absurd (omega arith) })
      (λ _. tt);
}

-- 9. a page was swept in this cycle and is to be swept still
abbrev pub swept_and_stale : CoreState
swept_and_stale = one_page 5 (one_life) (record idle_hand { cached = 0 ∷ []; swept = 0 ∷ [] })

pub swept_and_stale_breaks : BreaksAlone 9 swept_and_stale
swept_and_stale_breaks = record {
  broken = λ f. ⊎_elim (λ (x : 5 ≡ 0). let z : ⊥ = omega arith in z) (λ (y : (5 ≡ 4) ⊎ (5 ≡ 7)). ⊎_elim (λ (x : 5 ≡ 4). let z : ⊥ = omega arith in z) (λ (x : 5 ≡ 7). let z : ⊥ = omega arith in z) y) (f.word 0 (omega arith) (omega arith));
  others = others_of 9 swept_and_stale
      (λ _. record { generation = record { even = refl; low = omega arith; high = omega arith }; lives = record { entries = refl; word = λ p low. rw (first 5 p low) (inr (inr (inr (inr (inl refl))))); begin = λ p low. rw (first 5 p low) refl; owner_is = λ p low. rw (first 5 p low) refl; apart = λ p. one_covers p (one_life); whole = (omega arith, tt) }; pulled = λ p. let z = one_covers p (one_life) in omega arith })
      (λ _ p low. rw (first 5 p low) (λ e. absurd (omega arith)))
      (λ _ p low. rw (first 5 p low) (λ e. absurd (omega arith)))
      (λ _ p low. rw (first 5 p low) (λ e. absurd (omega arith)))
      (λ _ p low. rw (first 5 p low) (λ e. absurd (omega arith)))
      (λ _ p low. rw (first 5 p low) (λ e. record { one = refl; no_other = refl }))
      (λ _. record { lists = λ p low. rw (first 5 p low) (only_hand (record idle_hand { cached = 0 ∷ []; swept = 0 ∷ [] }) (λ n x. NamesOnce 0 x) record { sweeping = omega arith; held = omega arith; cached = omega arith; popped = omega arith; swept = omega arith }); entries = λ p low. omega arith })
      (λ _. record { order = λ k s e. absurd (some-ne-none s (sym e)); beyond = λ k s e. absurd (some-ne-none s (sym e)); unswept_cell = λ k s e. absurd (some-ne-none s (sym e)); swept_cell = λ k s e. absurd (some-ne-none s (sym e)); claim = λ n x e d c. absurd (some_none d (sym c ∙ only_hand (record idle_hand { cached = 0 ∷ []; swept = 0 ∷ [] }) (λ m y. y.claimed ≡ None) refl n x e)) })
      (λ n. absurd (n refl))
      (λ _. (no_objects, tt));
}

-- 10. an index is allocated that the life does not have
abbrev pub far_object : CoreState
far_object = one_page 4 (record one_life { allocated = 1 ∷ [] }) (record idle_hand { held = 0 ∷ [] })

pub far_object_breaks : BreaksAlone 10 far_object
far_object_breaks = record {
  broken = λ f. let e = f.0.allocated 1 (omega arith) in let z : ⊥ = omega arith in z;
  others = others_of 10 far_object
      (λ _. record { generation = record { even = refl; low = omega arith; high = omega arith }; lives = record { entries = refl; word = λ p low. rw (first 4 p low) (inr (inr (inr (inl refl)))); begin = λ p low. rw (first 4 p low) refl; owner_is = λ p low. rw (first 4 p low) refl; apart = λ p. one_covers p (record one_life { allocated = 1 ∷ [] }); whole = (omega arith, tt) }; pulled = λ p. let z = one_covers p (record one_life { allocated = 1 ∷ [] }) in omega arith })
      (λ _ p low. rw (first 4 p low) (λ e. absurd (omega arith)))
      (λ _ p low. rw (first 4 p low) (λ e. absurd (omega arith)))
      (λ _ p low. rw (first 4 p low) (λ e. absurd (omega arith)))
      (λ _ p low. rw (first 4 p low) (λ e. record { one = refl; no_other = refl }))
      (λ _ p low. rw (first 4 p low) (λ e. absurd (⊎_elim (λ (x : 4 ≡ 5). let z : ⊥ = omega arith in z) (λ (x : 4 ≡ 7). let z : ⊥ = omega arith in z) e)))
      (λ _. record { lists = λ p low. rw (first 4 p low) (only_hand (record idle_hand { held = 0 ∷ [] }) (λ n x. NamesOnce 0 x) record { sweeping = omega arith; held = omega arith; cached = omega arith; popped = omega arith; swept = omega arith }); entries = λ p low. omega arith })
      (λ _. record { order = λ k s e. absurd (some-ne-none s (sym e)); beyond = λ k s e. absurd (some-ne-none s (sym e)); unswept_cell = λ k s e. absurd (some-ne-none s (sym e)); swept_cell = λ k s e. absurd (some-ne-none s (sym e)); claim = λ n x e d c. absurd (some_none d (sym c ∙ only_hand (record idle_hand { held = 0 ∷ [] }) (λ m y. y.claimed ≡ None) refl n x e)) })
      (λ _. record { once = λ p low. omega arith; word = λ p low e. absurd (omega arith) })
      (λ n. absurd (n refl));
}

-- sharper parts of facts 1 and 8

-- a life without pages, so that its first page has no owner
abbrev pub life_without_pages : CoreState
life_without_pages = record (one_page 4 (record one_life { pages = 0 }) (record idle_hand { held = 0 ∷ [] })) { owners = None ∷ [] }

pub life_without_pages_is_refused : Owned life_without_pages → ⊥
life_without_pages_is_refused o = let e = o.lives.lives.whole.0 in let z : ⊥ = omega arith in z

-- a set of the class 0 with a span of the class 1
abbrev pub span_of_other_class : CoreState
span_of_other_class = record (one_page 4 (record one_life { class = 1 }) idle_hand) { sets = record { head = 0; tail = 1; cells = 1 ∷ [] } ∷ [] }

pub span_of_other_class_is_refused : Owned span_of_other_class → ⊥
span_of_other_class_is_refused o = ⊎_elim
    (λ (c : IsPage 1 (λ p. is_class p 0 (record one_life { class = 1 } ∷ []) ≡ true) 1). let e = c.1 in let at : c.0 ≡ 0 = omega arith in
    true≢false (sym (subst (λ (p : ℕ). is_class p 0 (record one_life { class = 1 } ∷ []) ≡ true) at c.3)))
    (λ (c : (1 ≡ 0) × (claimers 0 0 (idle_hand ∷ []) ≡ 1)). let e = c.0 in let z : ⊥ = omega arith in z)
    (o.sets.swept_cell 0 record { head = 0; tail = 1; cells = 1 ∷ [] } refl refl 0 (omega arith) (omega arith))

-- an unswept set with a page beyond the region
abbrev pub page_beyond : CoreState
page_beyond = record no_core { sets = record { head = 0; tail = 0; cells = [] } ∷ record { head = 0; tail = 1; cells = 1 ∷ [] } ∷ [] }

pub page_beyond_is_refused : Owned page_beyond → ⊥
page_beyond_is_refused o = let e = (o.sets.unswept_cell 1 record { head = 0; tail = 1; cells = 1 ∷ [] } refl refl 0 (omega arith) (omega arith)).2 in let z : ⊥ = omega arith in z

-- a pulled page that a life covers
abbrev pub pulled_span : CoreState
pulled_span = one_page 4 one_life (record idle_hand { held = 0 ∷ []; pulled = 0 ∷ [] })

pub pulled_span_is_refused : Owned pulled_span → ⊥
pulled_span_is_refused o = let e = o.lives.pulled 0 in let z : ⊥ = omega arith in z

-- a page that two hands have pulled
abbrev pub pulled_twice : CoreState
pulled_twice = record no_core { words = 0 ∷ []; owners = None ∷ []; hands = record idle_hand { pulled = 0 ∷ [] } ∷ record idle_hand { pulled = 0 ∷ [] } ∷ [] }

pub pulled_twice_is_refused : Owned pulled_twice → ⊥
pulled_twice_is_refused o = let e = o.lives.pulled 0 in let z : ⊥ = omega arith in z
