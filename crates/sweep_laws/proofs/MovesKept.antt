-- Each move whose needs are met keeps the rule.
use Rattle.std.proofs.Common.{◌≡◌, ◌≢◌, ℕ, zero, suc, ◌+◌, ◌-◌, ◌<◌, ◌≤◌, ◌⊎◌, inl, inr, ⊎_elim, Bool, true, false, true≢false, ◌||◌, not, cond, eqb, ltb, leb, List, [], ◌∷◌, length, get_or, sym, refl, ap, ◌∙◌, subst, arith, eq-eqb, ne_eqb}
use Rattle.std.specs.Prelude.{Option, Some, None}
use Rattle.std.specs.Option.{is_some}
use Rattle.std.specs.List.{find}
use Rattle.std.proofs.lemmas.Bool.{eqb-true, ltb-true, lt-ltb}
use mathlib.Core.Logic.{dite}
use mathlib.Core.Option.{some, some-injective}
use lib.ListN.{get_elem?}
use native.Mathlib.Decide.{ℕ_discrete}
use Rattle.sweep_laws.specs.declared.moves.Claimed.{Claimed}
use Rattle.sweep_laws.specs.declared.moves.Move.{Move}
use Rattle.sweep_laws.specs.declared.moves.Move.TheVariants.{Lock, Unlock, Take, Give, Acquire, Release, Cache, Allocate, Uncache, StaleUncache, Claim, Fill, PopSwept, PopUnswept, DropPopped, Pull, Cut, Drop, Next}
use Rattle.sweep_laws.specs.State.{LifeState, SetState, CoreState}
use Rattle.sweep_laws.specs.Lists.{has}
use Rattle.sweep_laws.specs.Reading.{hand_of, set_of, cell_of, life_of, no_hand, no_set, class_of_set, is_settled, life_in, is_free_page, free_block}
use Rattle.sweep_laws.specs.NeedsOfRange.{refusal}
use Rattle.sweep_laws.specs.NeedsOfMarkEnd.{is_allocated}
use Rattle.sweep_laws.specs.Needs.{take_needs, give_needs, acquire_needs, release_needs, cache_needs, allocate_needs, uncache_needs, stale_uncache_needs, claim_needs, pop_swept_needs, pop_unswept_needs, drop_popped_needs, fill_needs, pull_needs, cut_needs, drop_needs, next_needs}
use Rattle.sweep_laws.specs.ChangesOfHands.{hold, pop_entry}
use Rattle.sweep_laws.specs.ChangesOfLives.{marks_at}
use Rattle.sweep_laws.specs.ChangesOfSets.{base_of, raise_head}
use Rattle.sweep_laws.specs.Changes.{after_take, after_give, after_acquire, after_release, after_cache, after_allocate, after_uncache, after_stale_uncache, after_claim, after_fill, after_fill_of, after_pop_swept, after_pop_unswept, after_drop_popped, after_pull, after_cut, after_drop, after_next}
use Rattle.sweep_laws.specs.Step.{needs_of, after}
use Rattle.sweep_laws.specs.Counts.{one_if, times}
use Rattle.sweep_laws.specs.Named.{is_covered, covers, pullers, is_class, claimers}
use Rattle.sweep_laws.specs.OwnedSets.{IsPage}
use Rattle.sweep_laws.specs.Owned.{Owned}
use Rattle.sweep_laws.specs.Standing.{Kept, CoreKept}
use Rattle.sweep_laws.proofs.Totals.{inside_at, part_le}
use Rattle.sweep_laws.proofs.Naming.{has_times, at_low}
use Rattle.sweep_laws.proofs.NeedsMet.{all_met, both, either_one, not_true, eqb-false, holder_is, none_there, some_there, some_none, empty_list, not_found, no_position}
use Rattle.sweep_laws.proofs.Objects.{free_below, allocate_keeps}
use Rattle.sweep_laws.proofs.LivesChange.{is_in, unowned_covers}
use Rattle.sweep_laws.proofs.SweepMoves.{acquire_keeps, release_keeps}
use Rattle.sweep_laws.proofs.CacheMoves.{cache_keeps, uncache_keeps, stale_uncache_keeps}
use Rattle.sweep_laws.proofs.UnsweptMoves.{drop_popped_keeps, pop_unswept_keeps}
use Rattle.sweep_laws.proofs.SweptMoves.{pop_swept_keeps, claim_keeps}
use Rattle.sweep_laws.proofs.FillMove.{fill_keeps}
use Rattle.sweep_laws.proofs.PulledPages.{range_none, free_page, block_free}
use Rattle.sweep_laws.proofs.HeapMoves.{take_keeps, cut_keeps, give_keeps}
use Rattle.sweep_laws.proofs.PullMoves.{pull_keeps, drop_keeps}
use Rattle.sweep_laws.proofs.MarkEnd.{all_index, next_keeps}
use Rattle.sweep_laws.proofs.Forms.{kept_of, owned_of}

-- the class of the life that begins at a page
class_is : (ls : List LifeState) (p k : ℕ) → is_some (find (λ life. eqb life.page p) ls) ≡ true → eqb (life_in p ls).class k ≡ true → is_class p k ls ≡ true
class_is [] p k e f = absurd (true≢false (sym e))
class_is (l ∷ ls) p k e f = dite (ℕ_discrete l.page p)
    (λ s. let t = eq-eqb l.page p s in let g : eqb l.class k ≡ true = rw t at f in rw t g)
    (λ d. let t = ne_eqb l.page p d in let g : eqb (life_in p ls).class k ≡ true = rw t at f in let h : is_some (find (λ life. eqb life.page p) ls) ≡ true = rw t at e in rw t (class_is ls p k h g))

-- the page that a cell names
pub base_is : (pages cell p : ℕ) → cell ≡ p + 1 → p < pages → base_of pages cell ≡ p
base_is pages cell p e l = rw (lt-ltb 0 cell (omega arith), leb_yes cell pages (omega arith)) (omega arith)
  where
    leb_yes : (a b : ℕ) → a ≤ b → leb a b ≡ true
    leb_yes a b h = grind arith

-- no two lives begin at a page, so the first is the one
first_is : (ls : List LifeState) (n : ℕ) (l : LifeState) → get_elem? ls n ≡ some l → 1 ≤ l.pages → Rattle.std.specs.List.AllByRecursion (λ m. 1 ≤ m.pages) ls → covers l.page ls ≤ 1 → life_in l.page ls ≡ l
first_is [] n l at w all c = absurd (mathlib.Core.Option.some-ne-none l (sym at))
first_is (x ∷ xs) zero l at w all c = let s = some-injective x l at in rw (eq-eqb x.page l.page (ap (λ (z : LifeState). z.page) s)) s
first_is (x ∷ xs) (suc n) l at w all c = dite (ℕ_discrete x.page l.page)
    (λ e. let a = ap one_if (is_in l.page x (omega arith) (let y = all.0 in omega arith)) in
    let b = ap one_if (is_in l.page l (omega arith) (omega arith)) in let d = part_le (λ (m : LifeState). one_if (is_covered l.page m)) xs n l at in absurd (omega arith))
    (λ d. rw (ne_eqb x.page l.page d) (first_is xs n l at w all.1 (omega arith)))

-- marks that all name allocated indices
marks_allocated : (c : CoreState) (p i : ℕ) (marks : List (ℕ × ℕ)) → find (λ mark. not (is_allocated c mark)) marks ≡ None → 0 < times i (marks_at p marks) → is_allocated c (p, i) ≡ true
marks_allocated c p i [] e h = absurd (omega arith)
marks_allocated c p i (m ∷ marks) e h = go (is_allocated c m) refl (marks_allocated c p i marks) e
  where
    go : (b : Bool) → is_allocated c m ≡ b → (find (λ mark. not (is_allocated c mark)) marks ≡ None → 0 < times i (marks_at p marks) → is_allocated c (p, i) ≡ true)
        → cond (not b) (Some m) (find (λ mark. not (is_allocated c mark)) marks) ≡ None → is_allocated c (p, i) ≡ true
    go false s rest f = absurd (some_none m f)
    go true s rest f = dite (ℕ_discrete m.0 p)
        (λ a. let x : 0 < times i (m.1 ∷ marks_at p marks) = rw (eq-eqb m.0 p a) at h in dite (ℕ_discrete m.1 i)
        (λ b. ap (is_allocated c) (λ j. (sym a j, sym b j)) ∙ s)
        (λ b. rest f (let y = ap one_if (ne_eqb m.1 i b) in omega arith)))
        (λ a. rest f (rw (ne_eqb m.0 p a) at h))

settled_word : (g w : ℕ) → is_settled g w ≡ true → (w ≡ 0) ⊎ (w ≡ g) ⊎ (w ≡ g + 3)
settled_word g w e = ⊎_elim (λ (a : eqb w 0 ≡ true). inl (eqb-true w 0 a))
    (λ (a : eqb w g || eqb w (g + 3) ≡ true). ⊎_elim (λ (b : eqb w g ≡ true). inr (inl (eqb-true w g b))) (λ (b : eqb w (g + 3) ≡ true). inr (inr (eqb-true w (g + 3) b))) (either_one _ _ a))
    (either_one _ _ e)

module _ (c : CoreState) (k : CoreKept c) where
  pub hand_at : (w : ℕ) → ltb w (length c.hands) ≡ true → get_elem? c.hands w ≡ some (hand_of c w)
  hand_at w e = at_low c.hands w no_hand (ltb-true w (length c.hands) e)

  pub set_at : (s : ℕ) → ltb s (length c.sets) ≡ true → get_elem? c.sets s ≡ some (set_of c s)
  set_at s e = at_low c.sets s no_set (ltb-true s (length c.sets) e)

  -- what the needs of a Take say of the run
  pub run_inside : (w page pages count class : ℕ) → refusal (take_needs c w page pages count class) ≡ None → (page + pages ≤ length c.words) × (0 < pages)
  run_inside w page pages count class e = let m = all_met (take_needs c w page pages count class) e in (leb_true (page + pages) (length c.words) m.1.1.0, ltb-true 0 pages (both _ _ m.1.1.1.1.1.0).0)
    where
      leb_true : (a b : ℕ) → leb a b ≡ true → a ≤ b
      leb_true a b h = grind arith

  run_pages : (w page pages count class : ℕ) → refusal (take_needs c w page pages count class) ≡ None → (q : ℕ) → page ≤ q → q < page + pages → (get_or c.owners q None ≡ None) × (pullers q c.hands ≡ 0)
  run_pages w page pages count class e q l u = let m = all_met (take_needs c w page pages count class) e in
      free_page c.owners c.hands q (Rattle.sweep_laws.proofs.NeedsMet.not_false _ (range_none _ page pages (none_there _ (not_true _ m.1.1.1.1.1.1.0)) q l u))

  pub run_free : (w page pages count class : ℕ) → refusal (take_needs c w page pages count class) ≡ None → (q : ℕ) → page ≤ q → q < page + pages → get_or c.owners q None ≡ None
  run_free w page pages count class e q l u = (run_pages w page pages count class e q l u).0

  pub run_unpulled : (w page pages count class : ℕ) → refusal (take_needs c w page pages count class) ≡ None → (q : ℕ) → page ≤ q → q < page + pages → pullers q c.hands ≡ 0
  run_unpulled w page pages count class e q l u = (run_pages w page pages count class e q l u).1

  -- what the needs of a Cut say of the run
  pub cut_inside : (w page pages count class : ℕ) → refusal (cut_needs c w page pages count class) ≡ None → (page + pages ≤ length c.words) × (0 < pages)
  cut_inside w page pages count class e = let m = all_met (cut_needs c w page pages count class) e in (leb_true (page + pages) (length c.words) m.1.1.0, ltb-true 0 pages (both _ _ m.1.1.1.1.0).0)
    where
      leb_true : (a b : ℕ) → leb a b ≡ true → a ≤ b
      leb_true a b h = grind arith

  pub cut_pulled : (w page pages count class : ℕ) → refusal (cut_needs c w page pages count class) ≡ None → (q : ℕ) → page ≤ q → q < page + pages → 0 < times q (hand_of c w).pulled
  cut_pulled w page pages count class e q l u = let m = all_met (cut_needs c w page pages count class) e in
      has_times q (hand_of c w).pulled (Rattle.sweep_laws.proofs.NeedsMet.not_false _ (range_none _ page pages (none_there _ (not_true _ m.1.1.1.1.1.0)) q l u))

  -- what the needs of a mark end say of the words
  pub settled_words : (marks : List (ℕ × ℕ)) → refusal (next_needs c marks) ≡ None → (p : ℕ) → p < length c.words → (get_or c.words p 0 ≡ 0) ⊎ (get_or c.words p 0 ≡ c.generation) ⊎ (get_or c.words p 0 ≡ c.generation + 3)
  settled_words marks e p low = let m = all_met (next_needs c marks) e in
      settled_word c.generation (get_or c.words p 0) (Rattle.sweep_laws.proofs.NeedsMet.not_false _ (not_found _ c.words (none_there _ (not_true _ m.1.1.1.1.1.1.0)) p (get_or c.words p 0) (at_low c.words p 0 low)))

  take_kept : (w page pages count class : ℕ) → refusal (take_needs c w page pages count class) ≡ None → CoreKept (after_take c w page pages count class)
  take_kept w page pages count class e = let m = all_met (take_needs c w page pages count class) e in
      take_keeps c.generation c.words c.owners c.lives c.sets c.hands k w (hand_of c w) (hand_at w m.0) page (ltb-true page (length c.words) m.1.0) pages count class
      (run_inside w page pages count class e).0 (run_inside w page pages count class e).1 (run_free w page pages count class e) (run_unpulled w page pages count class e)

  pull_kept : (w : ℕ) → refusal (pull_needs c w) ≡ None → CoreKept (after_pull c w)
  pull_kept w e = let m = all_met (pull_needs c w) e in let b = block_free c in
      pull_keeps c.generation c.words c.owners c.lives c.sets c.hands k w (hand_of c w) (hand_at w m.0) (free_block c) (empty_list (hand_of c w).pulled m.1.1.0) b.once
      (λ q h. let f = b.free q h in let p = free_page c.owners c.hands q f.1 in let o = unowned_covers q c.lives (sym (k.lives_fit.owner_is q f.0) ∙ p.0) in let n = p.1 in omega arith)

  cut_kept : (w page pages count class : ℕ) → refusal (cut_needs c w page pages count class) ≡ None → CoreKept (after_cut c w page pages count class)
  cut_kept w page pages count class e = let m = all_met (cut_needs c w page pages count class) e in
      cut_keeps c.generation c.words c.owners c.lives c.sets c.hands k w (hand_of c w) (hand_at w m.0) page (ltb-true page (length c.words) m.1.0) pages count class
      (cut_inside w page pages count class e).0 (cut_inside w page pages count class e).1 (cut_pulled w page pages count class e)

  drop_kept : (w : ℕ) → refusal (drop_needs c w) ≡ None → CoreKept (after_drop c w)
  drop_kept w e = let m = all_met (drop_needs c w) e in drop_keeps c.generation c.words c.owners c.lives c.sets c.hands k w (hand_of c w) (hand_at w m.0)

  give_kept : (w page : ℕ) → refusal (give_needs c w page) ≡ None → CoreKept (after_give c w page)
  give_kept w page e = let m = all_met (give_needs c w page) e in
      give_keeps c.generation c.words c.owners c.lives c.sets c.hands k w (hand_of c w) (hand_at w m.0) page (ltb-true page (length c.words) m.1.0)
      (has_times page (hand_of c w).held m.1.1.1.0) (none_there _ (not_true _ m.1.1.1.1.1.0))

  acquire_kept : (w page : ℕ) → refusal (acquire_needs c w page) ≡ None → CoreKept (after_acquire c w page)
  acquire_kept w page e = let m = all_met (acquire_needs c w page) e in
      acquire_keeps c.generation c.words c.owners c.lives c.sets c.hands k w (hand_of c w) (hand_at w m.0) page (ltb-true page (length c.words) m.1.0) (eqb-true _ _ m.1.1.0)

  release_kept : (w page : ℕ) → refusal (release_needs c w page) ≡ None → CoreKept (after_release c w page)
  release_kept w page e = let m = all_met (release_needs c w page) e in
      release_keeps c.generation c.words c.owners c.lives c.sets c.hands k w (hand_of c w) (hand_at w m.0) page (ltb-true page (length c.words) m.1.0) (has_times page (hand_of c w).sweeping m.1.1.0)

  cache_kept : (w page : ℕ) → refusal (cache_needs c w page) ≡ None → CoreKept (after_cache c w page)
  cache_kept w page e = let m = all_met (cache_needs c w page) e in
      cache_keeps c.generation c.words c.owners c.lives c.sets c.hands k w (hand_of c w) (hand_at w m.0) page (ltb-true page (length c.words) m.1.0)
      (has_times page (hand_of c w).held m.1.1.0) (none_there _ (not_true _ m.1.1.1.0))

  allocate_kept : (w page i : ℕ) → refusal (allocate_needs c w page i) ≡ None → CoreKept (after_allocate c page i)
  allocate_kept w page i e = let m = all_met (allocate_needs c w page i) e in
      allocate_keeps c.generation c.words c.owners c.lives c.sets c.hands k page i (free_below (life_of c page).allocated (life_of c page).count i (holder_is i _ m.1.1.1.1.0))

  uncache_kept : (w page : ℕ) → refusal (uncache_needs c w page) ≡ None → CoreKept (after_uncache c w page)
  uncache_kept w page e = let m = all_met (uncache_needs c w page) e in
      uncache_keeps c.generation c.words c.owners c.lives c.sets c.hands k w (hand_of c w) (hand_at w m.0) page (ltb-true page (length c.words) m.1.0)
      (has_times page (hand_of c w).cached m.1.1.0) (eqb-true _ _ m.1.1.1.0)

  stale_uncache_kept : (w page : ℕ) → refusal (stale_uncache_needs c w page) ≡ None → CoreKept (after_stale_uncache c w page)
  stale_uncache_kept w page e = let m = all_met (stale_uncache_needs c w page) e in
      stale_uncache_keeps c.generation c.words c.owners c.lives c.sets c.hands k w (hand_of c w) (hand_at w m.0) page (ltb-true page (length c.words) m.1.0)
      (has_times page (hand_of c w).cached m.1.1.0) (eqb-true _ _ m.1.1.1.0)

  claim_kept : (w s page : ℕ) → refusal (claim_needs c w s page) ≡ None → CoreKept (after_claim c w s page)
  claim_kept w s page e = let m = all_met (claim_needs c w s page) e in
      claim_keeps c.generation c.words c.owners c.lives c.sets c.hands k w (hand_of c w) (hand_at w m.0) page (ltb-true page (length c.words) m.1.1.0) s (set_of c s) (set_at s m.1.0) m.1.1.1.0
      (has_times page (hand_of c w).held m.1.1.1.1.1.1.0) (none_there _ (not_true _ m.1.1.1.1.1.1.1.0)) (class_is c.lives page (class_of_set s) m.1.1.1.1.0 m.1.1.1.1.1.0)

  fill_kept : (w : ℕ) → refusal (fill_needs c w) ≡ None → CoreKept (after_fill c w)
  fill_kept w e = let m = all_met (fill_needs c w) e in let at = hand_at w m.0 in let t = some_there (hand_of c w).claimed m.1.0 in let f = k.sets_fit.claim w (hand_of c w) at t.0 t.1 in
      subst (λ (o : Option Claimed). CoreKept (after_fill_of o c w)) (sym t.1)
      (fill_keeps c.generation c.words c.owners c.lives c.sets c.hands k w (hand_of c w) at t.0 t.1 (set_of c t.0.set) (at_low c.sets t.0.set no_set (inside_at c.sets t.0.set f.set_at f.is_set)))

  pop_swept_kept : (w s : ℕ) → refusal (pop_swept_needs c w s) ≡ None → CoreKept (after_pop_swept c w s)
  pop_swept_kept w s e = let m = all_met (pop_swept_needs c w s) e in let there = set_at s m.1.0 in let x : SetState = set_of c s in let more = ltb-true x.head x.tail m.1.1.1.0 in
      ⊎_elim
      (λ (i : IsPage (length c.words) (λ p. is_class p (class_of_set s) c.lives ≡ true) (cell_of x x.head)).
      subst (λ (p : ℕ). Kept c.generation c.words c.owners c.lives (Rattle.std.proofs.Common.set c.sets s (raise_head x)) (Rattle.std.proofs.Common.set c.hands w (hold p (hand_of c w)))) (sym (base_is (length c.words) (cell_of x x.head) i.0 i.1 i.2))
      (pop_swept_keeps c.generation c.words c.owners c.lives c.sets c.hands k w (hand_of c w) (hand_at w m.0) i.0 i.2 s x there m.1.1.0 more i.1))
      (λ (i : (cell_of x x.head ≡ 0) × (claimers s x.head c.hands ≡ 1)). absurd (eqb-false _ _ (not_true _ m.1.1.1.1.0) i.0))
      (k.sets_fit.swept_cell s x there m.1.1.0 x.head (omega arith) more)

  pop_unswept_kept : (w s : ℕ) → refusal (pop_unswept_needs c w s) ≡ None → CoreKept (after_pop_unswept c w s)
  pop_unswept_kept w s e = let m = all_met (pop_unswept_needs c w s) e in let there = set_at s m.1.0 in let x : SetState = set_of c s in let more = ltb-true x.head x.tail m.1.1.1.0 in
      let i = k.sets_fit.unswept_cell s x there (not_true _ m.1.1.0) x.head (omega arith) more in
      subst (λ (p : ℕ). Kept c.generation c.words c.owners c.lives (Rattle.std.proofs.Common.set c.sets s (raise_head x)) (Rattle.std.proofs.Common.set c.hands w (pop_entry p (hand_of c w)))) (sym (base_is (length c.words) (cell_of x x.head) i.0 i.1 i.2))
      (pop_unswept_keeps c.generation c.words c.owners c.lives c.sets c.hands k w (hand_of c w) (hand_at w m.0) i.0 i.2 s x there (not_true _ m.1.1.0) more i.1)

  drop_popped_kept : (w page : ℕ) → refusal (drop_popped_needs c w page) ≡ None → CoreKept (after_drop_popped c w page)
  drop_popped_kept w page e = let m = all_met (drop_popped_needs c w page) e in
      drop_popped_keeps c.generation c.words c.owners c.lives c.sets c.hands k w (hand_of c w) (hand_at w m.0) page (ltb-true page (length c.words) m.1.0) (eqb-false _ _ (not_true _ m.1.1.1.0))

  -- what the needs of a mark end say of the marks: a life has allocated what they name in it
  pub marked_allocated : (marks : List (ℕ × ℕ)) → refusal (next_needs c marks) ≡ None → (n : ℕ) (l : LifeState) → get_elem? c.lives n ≡ some l → (i : ℕ) → 0 < times i (marks_at l.page marks) → 0 < times i l.allocated
  marked_allocated marks e n l at i h = let m = all_met (next_needs c marks) e in has_times i l.allocated (subst (λ (z : LifeState). has i z.allocated ≡ true)
      (first_is c.lives n l at (all_index (λ (z : LifeState). 1 ≤ z.pages) c.lives n l k.lives_fit.whole at) k.lives_fit.whole (k.lives_fit.apart l.page))
      (marks_allocated c l.page i marks (no_mark marks (none_there _ (not_true _ m.1.1.1.1.1.1.1.1.0))) h))
    where
      no_mark : (marks : List (ℕ × ℕ)) → Rattle.std.specs.Prelude.option_map (λ (mark : ℕ × ℕ). mark.1) (find (λ mark. not (is_allocated c mark)) marks) ≡ None → find (λ mark. not (is_allocated c mark)) marks ≡ None
      no_mark marks f = go (find (λ mark. not (is_allocated c mark)) marks) f
        where
          go : (o : Option (ℕ × ℕ)) → Rattle.std.specs.Prelude.option_map (λ (mark : ℕ × ℕ). mark.1) o ≡ None → o ≡ None
          go None f = refl
          go (Some x) f = absurd (some_none x.1 f)

  next_kept : (marks : List (ℕ × ℕ)) → refusal (next_needs c marks) ≡ None → CoreKept (after_next c marks)
  next_kept marks e = let m = all_met (next_needs c marks) e in
      next_keeps c.generation c.words c.owners c.lives c.sets c.hands k marks (ltb-true _ _ m.1.1.0)
      (λ n h at. let i = no_position _ c.hands (not_true _ m.1.1.1.0) n h at in let j = both _ _ (Rattle.sweep_laws.proofs.NeedsMet.not_false _ i) in let l = both _ _ j.1 in
      (empty_list h.sweeping j.0, empty_list h.held l.0, empty_list h.popped l.1, none_there h.claimed (not_found _ c.hands (none_there _ (not_true _ m.1.1.1.1.1.0)) n h at)))
      (settled_words marks e)
      (marked_allocated marks e)

  pub move_kept : (move : Move) → refusal (needs_of c move) ≡ None → CoreKept (after c move)
  move_kept (Lock w) e = k
  move_kept (Unlock w) e = k
  move_kept (Take w page pages count class) e = take_kept w page pages count class e
  move_kept (Give w page) e = give_kept w page e
  move_kept (Acquire w page) e = acquire_kept w page e
  move_kept (Release w page) e = release_kept w page e
  move_kept (Cache w page) e = cache_kept w page e
  move_kept (Allocate w page i) e = allocate_kept w page i e
  move_kept (Uncache w page) e = uncache_kept w page e
  move_kept (StaleUncache w page) e = stale_uncache_kept w page e
  move_kept (Claim w s page) e = claim_kept w s page e
  move_kept (Fill w) e = fill_kept w e
  move_kept (PopSwept w s) e = pop_swept_kept w s e
  move_kept (PopUnswept w s) e = pop_unswept_kept w s e
  move_kept (DropPopped w page) e = drop_popped_kept w page e
  move_kept (Pull w) e = pull_kept w e
  move_kept (Cut w page pages count class) e = cut_kept w page pages count class e
  move_kept (Drop w) e = drop_kept w e
  move_kept (Next marks) e = next_kept marks e

-- each move keeps the rule of ownership from any state that has it
pub move_owned : (c : CoreState) (move : Move) → refusal (needs_of c move) ≡ None → Owned c → Owned (after c move)
move_owned c move e o = owned_of (after c move) (move_kept c (kept_of c o) move e)
