-- A move that is allowed and provided for takes no memory, from a state that has the rule, is tidy and has space.
use Rattle.std.proofs.Common.{◌≡◌, ℕ, ◌+◌, ◌<◌, ◌≤◌, ⊎_elim, Bool, true, not, List, length, get_or, sym, ◌∙◌, subst, arith}
use Rattle.std.specs.Prelude.{Option, None, IfSome}
use Rattle.std.proofs.lemmas.Bool.{eqb-true, ltb-true}
use mathlib.Core.Logic.{dite}
use native.Mathlib.Decide.{dec_le}
use Rattle.sweep_laws.specs.Counts.{times}
use Rattle.sweep_laws.specs.declared.moves.Claimed.{Claimed}
use Rattle.sweep_laws.specs.declared.moves.Move.{Move}
use Rattle.sweep_laws.specs.declared.moves.Move.TheVariants.{Lock, Unlock, Take, Give, Acquire, Release, Cache, Allocate, Uncache, StaleUncache, Claim, Fill, PopSwept, PopUnswept, DropPopped, Pull, Cut, Drop, Next}
use Rattle.sweep_laws.specs.State.{LifeState, SetState, CoreState}
use Rattle.sweep_laws.specs.Reading.{hand_of, set_of, cell_of, life_of, class_of_set, is_swept_set, free_block}
use Rattle.sweep_laws.specs.NeedsOfRange.{refusal}
use Rattle.sweep_laws.specs.Needs.{take_needs, acquire_needs, release_needs, cache_needs, allocate_needs, uncache_needs, stale_uncache_needs, fill_needs, pop_swept_needs, pop_unswept_needs, cut_needs, next_needs}
use Rattle.sweep_laws.specs.ChangesOfLives.{marks_at}
use Rattle.sweep_laws.specs.Step.{needs_of, HasRoom}
use Rattle.sweep_laws.specs.Named.{only, names_in, unswept, is_class, claimers}
use Rattle.sweep_laws.specs.OwnedLives.{ObjectsFit}
use Rattle.sweep_laws.specs.OwnedSets.{IsPage}
use Rattle.sweep_laws.specs.Owned.{Owned}
use Rattle.sweep_laws.specs.Standing.{CoreKept}
use Rattle.sweep_laws.specs.Tidy.{IsTidy, HasSpace, IsProvided}
use Rattle.sweep_laws.proofs.Naming.{has_times, at_low}
use Rattle.sweep_laws.proofs.NeedsMet.{all_met, not_true, eqb-false, holder_is, some_there}
use Rattle.sweep_laws.proofs.LivesChange.{unowned_covers}
use Rattle.sweep_laws.proofs.Unpopped.{hit_between}
use Rattle.sweep_laws.proofs.Reset.{sets_part, set_deltas}
use Rattle.sweep_laws.proofs.Standings.{free_word, unswept_word, cached_word, sweeping_list, held_list, queued_list}
use Rattle.sweep_laws.proofs.Deltas.{parts, unlisted}
use Rattle.sweep_laws.proofs.Objects.{free_below}
use Rattle.sweep_laws.proofs.HeapMoves.{free_before, free_uncovered, pulled_uncovered}
use Rattle.sweep_laws.proofs.PulledPages.{block_free}
use Rattle.sweep_laws.proofs.Counted.{short}
use Rattle.sweep_laws.proofs.MarkEnd.{all_index}
use Rattle.sweep_laws.proofs.MovesKept.{hand_at, set_at, run_free, run_inside, cut_inside, cut_pulled, marked_allocated}
use Rattle.sweep_laws.proofs.MarksOnce.{marks_once}
use Rattle.sweep_laws.proofs.Forms.{kept_of}
use Rattle.sweep_laws.proofs.ListsShort.{page_of, sweeping_short, held_short, cached_short, popped_short, swept_short, lives_short, kept_short, allocated_short, marks_short, free_unlisted}

module _ (c : CoreState) (k : CoreKept c) (t : IsTidy c) (s : HasSpace c) where
  take_room : (w page pages count class : ℕ) → refusal (take_needs c w page pages count class) ≡ None → count ≤ c.prepared → HasRoom c (Take w page pages count class)
  take_room w page pages count class e has = let m = all_met (take_needs c w page pages count class) e in
      let low = ltb-true page (length c.words) m.1.0 in
      let free = run_free c k w page pages count class e page (omega arith) (let z = (run_inside c k w page pages count class e).1 in omega arith) in
      let word = free_before c.generation c.words c.owners c.lives k.lives_fit page low free in
      let n = free_word c.generation (page_of c page) k.generation.low (k.page page low).standing word in
      let l = lives_short c k t page low (unowned_covers page c.lives (sym (k.lives_fit.owner_is page low) ∙ free)) in
      let h = held_short c k t w (hand_of c w) (hand_at c k w m.0) page low (omega arith) in
      let r = s.room in (omega arith, omega arith, has)

  cut_room : (w page pages count class : ℕ) → refusal (cut_needs c w page pages count class) ≡ None → count ≤ c.prepared → HasRoom c (Cut w page pages count class)
  cut_room w page pages count class e has = let m = all_met (cut_needs c w page pages count class) e in
      let low = ltb-true page (length c.words) m.1.0 in let at = hand_at c k w m.0 in
      let free = pulled_uncovered c.generation c.words c.owners c.lives c.sets c.hands k w (hand_of c w) at page low page (cut_pulled c k w page pages count class e page (omega arith) (let z = (cut_inside c k w page pages count class e).1 in omega arith)) in
      let word = free_uncovered c.generation c.words c.owners c.lives k.lives_fit page low free in
      let n = free_word c.generation (page_of c page) k.generation.low (k.page page low).standing word in
      let l = lives_short c k t page low free in
      let h = held_short c k t w (hand_of c w) at page low (omega arith) in
      let r = s.room in (omega arith, omega arith, has)

  pull_room : (w : ℕ) → HasRoom c (Pull w)
  pull_room w = let b = block_free c in let r = s.room in let l = short (free_block c) (length c.words) (λ p _. b.once p)
      (λ p far. dite (dec_le 1 (times p (free_block c))) (λ y. let f = (b.free p (omega arith)).0 in absurd (omega arith)) (λ y. omega arith)) in omega arith

  acquire_room : (w page : ℕ) → refusal (acquire_needs c w page) ≡ None → HasRoom c (Acquire w page)
  acquire_room w page e = let m = all_met (acquire_needs c w page) e in let low = ltb-true page (length c.words) m.1.0 in
      let n = (unswept_word c.generation (page_of c page) k.generation.low (k.page page low).standing (eqb-true _ _ m.1.1.0)).0 in
      let h = sweeping_short c k t w (hand_of c w) (hand_at c k w m.0) page low (omega arith) in let r = s.room in omega arith

  release_room : (w page : ℕ) → refusal (release_needs c w page) ≡ None → HasRoom c (Release w page)
  release_room w page e = let m = all_met (release_needs c w page) e in let low = ltb-true page (length c.words) m.1.0 in let at = hand_at c k w m.0 in
      let a = has_times page (hand_of c w).sweeping m.1.1.0 in let b = (parts c.hands w (hand_of c w) at page).sweeping in
      let l = sweeping_list c.generation (page_of c page) (k.page page low).standing (omega arith) in let word = l.0 in let rest = l.2 in let g = k.generation.low in
      let n = unlisted c.generation (page_of c page) (k.page page low) (omega arith) (λ x. omega arith) (λ x. omega arith) in
      let h = held_short c k t w (hand_of c w) at page low (omega arith) in
      let f = swept_short c k t w (hand_of c w) at page low n in let r = s.room in
      (omega arith, omega arith, kept_short c k t page)

  cache_room : (w page : ℕ) → refusal (cache_needs c w page) ≡ None → HasRoom c (Cache w page)
  cache_room w page e = let m = all_met (cache_needs c w page) e in let low = ltb-true page (length c.words) m.1.0 in let at = hand_at c k w m.0 in
      let a = has_times page (hand_of c w).held m.1.1.0 in let b = (parts c.hands w (hand_of c w) at page).held in
      let l = (held_list c.generation (page_of c page) (k.page page low).standing (omega arith)).2 in
      let h = cached_short c k t w (hand_of c w) at page low (omega arith) in let r = s.room in omega arith

  allocate_room : (w page i : ℕ) → refusal (allocate_needs c w page i) ≡ None → HasRoom c (Allocate w page i)
  allocate_room w page i e = let m = all_met (allocate_needs c w page i) e in let free = holder_is i _ m.1.1.1.1.0 in
      allocated_short c k t page i (free_below (life_of c page).allocated (life_of c page).count i free) (free_unlisted (life_of c page).allocated _ i free)

  uncache_room : (w page : ℕ) → refusal (uncache_needs c w page) ≡ None → HasRoom c (Uncache w page)
  uncache_room w page e = let m = all_met (uncache_needs c w page) e in let low = ltb-true page (length c.words) m.1.0 in
      let n = (cached_word c.generation (page_of c page) k.generation.low (k.page page low).standing (Rattle.std.proofs.Common.inr (eqb-true _ _ m.1.1.1.0))).1 in
      let h = held_short c k t w (hand_of c w) (hand_at c k w m.0) page low (omega arith) in let r = s.room in omega arith

  stale_uncache_room : (w page : ℕ) → refusal (stale_uncache_needs c w page) ≡ None → HasRoom c (StaleUncache w page)
  stale_uncache_room w page e = let m = all_met (stale_uncache_needs c w page) e in let low = ltb-true page (length c.words) m.1.0 in
      let n = (cached_word c.generation (page_of c page) k.generation.low (k.page page low).standing (Rattle.std.proofs.Common.inl (eqb-true _ _ m.1.1.1.0))).1 in
      let h = sweeping_short c k t w (hand_of c w) (hand_at c k w m.0) page low (omega arith) in let r = s.room in omega arith

  fill_room : (w : ℕ) → refusal (fill_needs c w) ≡ None → HasRoom c (Fill w)
  fill_room w e = let m = all_met (fill_needs c w) e in let at = hand_at c k w m.0 in let claim = some_there (hand_of c w).claimed m.1.0 in
      let f = k.sets_fit.claim w (hand_of c w) at claim.0 claim.1 in let below = f.below_tail in let tail = s.tails claim.0.set f.set_at f.is_set in let r = s.room in
      subst (λ (o : Option Claimed). IfSome o (λ d. d.index < c.room)) (sym claim.1) (omega arith)

  pop_swept_room : (w n : ℕ) → refusal (pop_swept_needs c w n) ≡ None → HasRoom c (PopSwept w n)
  pop_swept_room w n e = let m = all_met (pop_swept_needs c w n) e in let there = set_at c k n m.1.0 in let x : SetState = set_of c n in let more = ltb-true x.head x.tail m.1.1.1.0 in
      ⊎_elim
      (λ (i : IsPage (length c.words) (λ p. is_class p (class_of_set n) c.lives ≡ true) (cell_of x x.head)).
      let a = (set_deltas c.generation i.0 c.lives c.sets n x x true there m.1.1.0).part in
      let b = hit_between (cell_of x) (i.0 + 1) x.head x.tail x.head (omega arith) more i.1 in
      let l = (queued_list c.generation (page_of c i.0) (k.page i.0 i.2).standing (omega arith)).2 in
      let h = held_short c k t w (hand_of c w) (hand_at c k w m.0) i.0 i.2 (omega arith) in let r = s.room in
      let z : length (hand_of c w).held < c.room = omega arith in z)
      (λ (i : (cell_of x x.head ≡ 0) × (claimers n x.head c.hands ≡ 1)). absurd (eqb-false _ _ (not_true _ m.1.1.1.1.0) i.0))
      (k.sets_fit.swept_cell n x there m.1.1.0 x.head (omega arith) more)

  pop_unswept_room : (w n : ℕ) → refusal (pop_unswept_needs c w n) ≡ None → HasRoom c (PopUnswept w n)
  pop_unswept_room w n e = let m = all_met (pop_unswept_needs c w n) e in let there = set_at c k n m.1.0 in let x : SetState = set_of c n in let more = ltb-true x.head x.tail m.1.1.1.0 in
      let i = k.sets_fit.unswept_cell n x there (not_true _ m.1.1.0) x.head (omega arith) more in
      let a = subst (λ (b : Bool). only (not b) (names_in i.0 x) ≤ unswept c.generation i.0 c.sets) (not_true _ m.1.1.0)
      (sets_part (λ j y. only (not (is_swept_set c.generation j)) (names_in i.0 y)) c.sets n x there) in
      let b = hit_between (cell_of x) (i.0 + 1) x.head x.tail x.head (omega arith) more i.1 in
      let l = (k.page i.0 i.2).waiting in
      let h = popped_short c k t w (hand_of c w) (hand_at c k w m.0) i.0 i.2 (omega arith) in let r = s.room in omega arith

  next_room : (marks : List (ℕ × ℕ)) → refusal (next_needs c marks) ≡ None → HasRoom c (Next marks)
  next_room marks e = λ n d low. let m = all_met (next_needs c marks) e in let l : LifeState = get_or c.lives n d in let at = at_low c.lives n d low in
      marks_short l (marks_at l.page marks) (all_index ObjectsFit c.lives n l k.objects at) (marks_once marks m.0 l.page) (marked_allocated c k marks e n l at)

  move_room : (move : Move) → refusal (needs_of c move) ≡ None → IsProvided c move → HasRoom c move
  move_room (Lock w) e p = tt
  move_room (Unlock w) e p = tt
  move_room (Take w page pages count class) e p = take_room w page pages count class e p
  move_room (Give w page) e p = tt
  move_room (Acquire w page) e p = acquire_room w page e
  move_room (Release w page) e p = release_room w page e
  move_room (Cache w page) e p = cache_room w page e
  move_room (Allocate w page i) e p = allocate_room w page i e
  move_room (Uncache w page) e p = uncache_room w page e
  move_room (StaleUncache w page) e p = stale_uncache_room w page e
  move_room (Claim w n page) e p = tt
  move_room (Fill w) e p = fill_room w e
  move_room (PopSwept w n) e p = pop_swept_room w n e
  move_room (PopUnswept w n) e p = pop_unswept_room w n e
  move_room (DropPopped w page) e p = tt
  move_room (Pull w) e p = pull_room w
  move_room (Cut w page pages count class) e p = cut_room w page pages count class e p
  move_room (Drop w) e p = tt
  move_room (Next marks) e p = next_room marks e

-- a move that is allowed and provided for has room for all that it puts into lists
pub has_room : (c : CoreState) (move : Move) → refusal (needs_of c move) ≡ None → Owned c → IsTidy c → HasSpace c → IsProvided c move → HasRoom c move
has_room c move e o t s p = move_room c (kept_of c o) t s move e p
