-- Each move of span ownership keeps what the swept sets name, from what the move needs and what its call asks.
use Rattle.std.proofs.Common.{◌≡◌, ℕ, zero, suc, ◌+◌, ◌-◌, ◌<◌, ◌≤◌, ◌⊎◌, inl, inr, ⊎_elim, true, false, true≢false, ◌&&◌, not, eqb, ltb, map, List, [], ◌∷◌, length, set, get_or, length-set, refl, sym, ◌∙◌, ap, subst, arith, ne_eqb}
use Rattle.std.specs.Prelude.{Option, Some, None}
use Rattle.std.specs.Option.{is_some}
use Rattle.std.specs.List.{find, range_with_len}
use Rattle.std.proofs.lemmas.Bool.{cases_eq, cases_Bool, eqb-true, ltb-true}
use mathlib.Core.Option.{some, some-injective, some-ne-none}
use lib.ListN.{get_elem?}
use Rattle.sweep_laws.specs.declared.moves.Claimed.{Claimed}
use Rattle.sweep_laws.specs.declared.moves.Move.TheVariants.{Claim as ClaimMove}
use Rattle.sweep_laws.specs.Counts.{times}
use Rattle.sweep_laws.specs.Lists.{has, least_outside}
use Rattle.sweep_laws.specs.Named.{begins, is_class}
use Rattle.sweep_laws.specs.Reading.{hand_of, set_of, cell_of, life_of, life_in, allocated_at, class_of_set, free_block, is_swept_set, no_set}
use Rattle.sweep_laws.specs.NeedsOfRange.{refusal}
use Rattle.sweep_laws.specs.Needs.{acquire_needs, release_needs, cache_needs, uncache_needs, stale_uncache_needs, take_needs, give_needs, allocate_needs, claim_needs, fill_needs, pop_swept_needs, pop_unswept_needs, drop_popped_needs, pull_needs, cut_needs, drop_needs, next_needs}
use Rattle.sweep_laws.specs.ChangesOfHands.{hold, let_go, start_sweep, end_sweep, put_in_cache, take_from_cache, sweep_from_cache, claim_cell, pop_entry, drop_entry, pull_pages, cut_span, drop_pulled, forget_swept}
use Rattle.sweep_laws.specs.ChangesOfLives.{new_life, keep_marked}
use Rattle.sweep_laws.specs.ChangesOfSets.{raise_head, head_base, empty_unswept}
use Rattle.sweep_laws.specs.Changes.{after_take, after_give, after_acquire, after_release, after_cache, after_allocate, after_uncache, after_stale_uncache, after_claim, after_fill, after_fill_of, after_pop_swept, after_pop_unswept, after_drop_popped, after_pull, after_cut, after_drop, after_next}
use Rattle.sweep_laws.specs.OwnedLives.{ObjectsFit}
use Rattle.sweep_laws.specs.OwnedSets.{IsPage}
use Rattle.sweep_laws.specs.Owned.{Owned}
use Rattle.sweep_laws.specs.Standing.{tally, CoreKept}
use Rattle.sweep_laws.specs.State.{LifeState, SetState, HandState, CoreState}
use Rattle.sweep_laws.proofs.Forms.{kept_of}
use Rattle.sweep_laws.proofs.HeapMoves.{free_before, free_uncovered, pulled_uncovered}
use Rattle.sweep_laws.proofs.LivesChange.{all_at}
use Rattle.sweep_laws.proofs.MarkEnd.{turns}
use Rattle.sweep_laws.proofs.MovesKept.{hand_at, set_at, run_free, cut_inside, cut_pulled, move_kept, base_is}
use Rattle.sweep_laws.proofs.Naming.{has_times, times_has, times_erase_else, at_low, set_here}
use Rattle.sweep_laws.proofs.NeedsMet.{all_met, both, either_one, not_true, eqb-false, holder_is, some_there, some_none, none_there, not_found}
use Rattle.sweep_laws.proofs.Objects.{free_below}
use Rattle.sweep_laws.proofs.Standings.{sweeping_list}
use Rattle.sweep_laws.proofs.Totals.{times_end_else, part_le, inside_at, same_one}
use Rattle.worker_log.specs.declared.Entry.{Entry}
use Rattle.worker_log.specs.SetNumbers.{is_full_set}
use Rattle.worker_log.specs.Entries.{many, is_pop_of}
use Rattle.swept_set_laws.specs.Entered.{Entered, EnteredIn, IsSettled, is_full_life, log_of}
use Rattle.swept_set_laws.specs.NamesGoOn.{SamePops, HasPopped, MayClaim, put_name}
use Rattle.swept_set_laws.proofs.Stays.{Stays, word_stays, change_stays, append_stays, drop_stays}
use Rattle.swept_set_laws.proofs.EnteredKept.{turned_enters, claim_room, claim_enters}
use Rattle.swept_set_laws.proofs.EnteredMoves.{fill_enters, pop_swept_enters}
use Rattle.swept_set_laws.proofs.EnteredRest.{cached_popped, allocate_enters, unswept_enters, empty_enters}

-- other logs with the same pops
pub entered_logs : (g pages : ℕ) (ws : List ℕ) (ls : List LifeState) (ss : List SetState) (hs : List HandState) (logs logs' : List (List Entry)) (names : ℕ → ℕ → ℕ) → SamePops g logs' logs
    → Entered g pages ws ls ss hs logs names → Entered g pages ws ls ss hs logs' names
entered_logs g pages ws ls ss hs logs logs' names pops e = record {
  sets_name = e.sets_name;
  claim = e.claim;
  told = λ m x a k s b part p pop. e.told m x a k s b part p (let z = pops m k p part in omega arith);
  known = λ m x a k s b part i l held. ⊎_elim
      (λ (z : 0 < many (is_pop_of k (names k i)) (log_of logs m)). inl (let v = pops m k (names k i) part in omega arith))
      (λ (z : (is_full_set k ≡ false) × (is_full_life (life_in (names k i) ls) ≡ true)). inr z)
      (e.known m x a k s b part i l held);
}

-- a life with an allocated index, as what an unpopped cell of a swept set names
pub entered_some : (c : CoreState) (logs : List (List Entry)) (names : ℕ → ℕ → ℕ) → EnteredIn c logs names → (k : ℕ) (s : SetState) (i p : ℕ) → get_elem? c.sets k ≡ some s → is_swept_set c.generation k ≡ true → i < s.tail → cell_of s i ≡ p + 1
    → (j : ℕ) × (0 < times j (allocated_at c p))
entered_some c logs names e k s i p at part lt cell =
    let n = e.sets_name k s at part in
    let named : names k i ≡ p = ⊎_elim (λ (z : cell_of s i ≡ 0). absurd (omega arith)) (λ (z : cell_of s i ≡ names k i + 1). let y : names k i ≡ p = omega arith in y) (n.cell i lt) in
    first (allocated_at c p) (subst (λ (q : ℕ). 0 < length (life_in q c.lives).allocated) named (n.entry i lt).used)
  where
    first : (xs : List ℕ) → 0 < length xs → (j : ℕ) × (0 < times j xs)
    first [] h = absurd (omega arith)
    first (x ∷ xs) h = (x, let z = same_one x in omega arith)

-- a full life has no index that is free
full-none : (l : LifeState) (i : ℕ) → least_outside l.allocated l.count ≡ Some i → is_full_life l ≡ false
full-none l i e = ap (λ (x : Option ℕ). not (is_some x)) e

-- an index that is found free is not allocated
found-free : (xs : List ℕ) (a n i : ℕ) → find (λ j. not (has j xs)) (range_with_len a n) ≡ Some i → has i xs ≡ false
found-free xs a zero i e = absurd (some_none i (sym e))
found-free xs a (suc n) i e = elim (cases_Bool (has a xs)) [
  | inl on ↦ (let e' : find (λ j. not (has j xs)) (range_with_len (a + 1) n) ≡ Some i = rw on at e in found-free xs (a + 1) n i e')
  | inr off ↦ (let e' : Some a ≡ Some i = rw off at e in ap (λ (k : ℕ). has k xs) (sym (some-same a i e')) ∙ off)
]
  where
    some-same : (x y : ℕ) → Some x ≡ Some y → x ≡ y
    some-same x y h = cc

-- words that say that a span is not swept are not settled
unsettled : (g w : ℕ) → 4 ≤ g → (w + 2 ≡ g) ⊎ (w + 1 ≡ g) ⊎ (w ≡ g + 1) ⊎ (w ≡ 0) → IsSettled g w → ⊥
unsettled g w low (inl a) (inl b) = omega arith
unsettled g w low (inl a) (inr b) = omega arith
unsettled g w low (inr (inl a)) (inl b) = omega arith
unsettled g w low (inr (inl a)) (inr b) = omega arith
unsettled g w low (inr (inr (inl a))) (inl b) = omega arith
unsettled g w low (inr (inr (inl a))) (inr b) = omega arith
unsettled g w low (inr (inr (inr a))) (inl b) = omega arith
unsettled g w low (inr (inr (inr a))) (inr b) = omega arith

module _ (c : CoreState) (o : Owned c) (logs : List (List Entry)) (names : ℕ → ℕ → ℕ) (e : EnteredIn c logs names) where
  k : CoreKept c
  k = kept_of c o

  inside : (p : ℕ) → ltb p (length c.words) ≡ true → p < length c.words
  inside p h = ltb-true p (length c.words) h

  -- the life of a page that may be claimed is of the set's class
  claimed_class : (w s p : ℕ) → refusal (claim_needs c w s p) ≡ None → is_class p (class_of_set s) c.lives ≡ true
  claimed_class w s p met =
      let m = all_met (claim_needs c w s p) met in
      let new : Claimed = record { set = s; index = (set_of c s).tail; page = p } in
      let h' : HandState = claim_cell s (set_of c s).tail p (hand_of c w) in
      let after_kept = move_kept c k (ClaimMove w s p) met in
      let fits = after_kept.sets_fit.claim w h' (set_here c.hands w h' (inside_at c.hands w (hand_of c w) (hand_at c k w m.0))) new refl in
      fits.class

  -- no more cells of a swept set were claimed than there are pages, so a Claim finds room
  pub claim_has_room : (w s p : ℕ) → refusal (claim_needs c w s p) ≡ None → MayClaim c logs w s p → (set_of c s).tail < length c.words
  claim_has_room w s p met may =
      let m = all_met (claim_needs c w s p) met in
      claim_room c.generation c.words c.owners c.lives c.sets c.hands k logs names e w (hand_of c w) (hand_at c k w m.0) p (inside p m.1.1.0) (has_times p (hand_of c w).held m.1.1.1.1.1.1.0)
      (none_there _ (not_true _ m.1.1.1.1.1.1.1.0)) s (set_of c s) (set_at c k s m.1.0) m.1.1.1.0 (claimed_class w s p met) may.used may.fullness may.unpopped

  pub claim_keeps_names : (w s p : ℕ) → refusal (claim_needs c w s p) ≡ None → MayClaim c logs w s p → EnteredIn (after_claim c w s p) logs (put_name names s (set_of c s).tail p)
  claim_keeps_names w s p met may =
      let m = all_met (claim_needs c w s p) met in
      claim_enters c.generation c.words c.owners c.lives c.sets c.hands k logs names e w (hand_of c w) (hand_at c k w m.0) p (inside p m.1.1.0) (has_times p (hand_of c w).held m.1.1.1.1.1.1.0)
      (none_there _ (not_true _ m.1.1.1.1.1.1.1.0)) s (set_of c s) (set_at c k s m.1.0) m.1.1.1.0 (claimed_class w s p met) may.used may.fullness may.unpopped

  pub fill_keeps_names : (w : ℕ) → refusal (fill_needs c w) ≡ None → EnteredIn (after_fill c w) logs names
  fill_keeps_names w met =
      let m = all_met (fill_needs c w) met in
      let at = hand_at c k w m.0 in
      let t = some_there (hand_of c w).claimed m.1.0 in
      let f = k.sets_fit.claim w (hand_of c w) at t.0 t.1 in
      subst (λ (x : Option Claimed). EnteredIn (after_fill_of x c w) logs names) (sym t.1)
      (fill_enters c.generation c.words c.owners c.lives c.sets c.hands k logs names e w (hand_of c w) at t.0 t.1 (set_of c t.0.set) (at_low c.sets t.0.set no_set (inside_at c.sets t.0.set f.set_at f.is_set)))

  -- the page at the head of a swept set
  pub head_page : (w s : ℕ) → refusal (pop_swept_needs c w s) ≡ None → (cell_of (set_of c s) (set_of c s).head ≡ head_base c s + 1) × (head_base c s < length c.words)
  head_page w s met =
      let m = all_met (pop_swept_needs c w s) met in
      let x : SetState = set_of c s in
      let more = ltb-true x.head x.tail m.1.1.1.0 in
      ⊎_elim
      (λ (i : IsPage (length c.words) (λ p. is_class p (class_of_set s) c.lives ≡ true) (cell_of x x.head)).
      let b : head_base c s ≡ i.0 = base_is (length c.words) (cell_of x x.head) i.0 i.1 i.2 in
      let both_of : (cell_of x x.head ≡ head_base c s + 1) × (head_base c s < length c.words) = (let i₁ = i.1 in omega arith, let i₂ = i.2 in omega arith) in both_of)
      (λ (i : (cell_of x x.head ≡ 0) × _). absurd (eqb-false _ _ (not_true _ m.1.1.1.1.0) i.0))
      (k.sets_fit.swept_cell s x (set_at c k s m.1.0) m.1.1.0 x.head (omega arith) more)

  pub pop_swept_keeps_names : (w s : ℕ) (logs' : List (List Entry)) → refusal (pop_swept_needs c w s) ≡ None → HasPopped c.generation w s (head_base c s) logs' logs → EnteredIn (after_pop_swept c w s) logs' names
  pop_swept_keeps_names w s logs' met popped =
      let m = all_met (pop_swept_needs c w s) met in
      let x : SetState = set_of c s in
      let page = head_page w s met in
      pop_swept_enters c.generation c.words c.owners c.lives c.sets c.hands k logs names e w (hand_of c w) (hand_at c k w m.0) s x (set_at c k s m.1.0) m.1.1.0 (ltb-true x.head x.tail m.1.1.1.0) (head_base c s) page.1 page.0 logs' popped.own popped.others

  module _ (logs' : List (List Entry)) (pops : SamePops c.generation logs' logs) where
    -- words, lives and one hand change
    enters : (ws' : List ℕ) (ls' : List LifeState) (w : ℕ) (h' : HandState) → length ws' ≡ length c.words → Stays c.generation (length c.words) c.words c.lives ws' ls' → get_elem? c.hands w ≡ some (hand_of c w) → h'.claimed ≡ (hand_of c w).claimed
        → ((q : ℕ) → q < length c.words → IsSettled c.generation (get_or c.words q 0) → 0 < length (life_in q c.lives).allocated → 0 < times q h'.held + times q h'.cached → 0 < times q (hand_of c w).held + times q (hand_of c w).cached)
        → Entered c.generation (length ws') ws' ls' c.sets (set c.hands w h') logs' names
    enters ws' ls' w h' size stays at claims has = subst (λ (n : ℕ). Entered c.generation n ws' ls' c.sets (set c.hands w h') logs' names) (sym size)
        (turned_enters c.generation (length c.words) c.words c.lives c.sets c.hands logs names e ws' ls' stays w (hand_of c w) h' logs' at k.sets_fit.order claims has pops)

    pub logs_keep_names : EnteredIn c logs' names
    logs_keep_names = entered_logs c.generation (length c.words) c.words c.lives c.sets c.hands logs logs' names pops e

    pub acquire_keeps_names : (w p : ℕ) → refusal (acquire_needs c w p) ≡ None → EnteredIn (after_acquire c w p) logs' names
    acquire_keeps_names w p met =
        let m = all_met (acquire_needs c w p) met in
        let word : get_or c.words p 0 + 2 ≡ c.generation = eqb-true _ _ m.1.1.0 in
        enters (set c.words p (c.generation - 1)) c.lives w (start_sweep p (hand_of c w)) (length-set c.words p (c.generation - 1))
        (word_stays c.generation c.words c.lives p (c.generation - 1) (inside p m.1.0) (λ z. absurd (unsettled c.generation (get_or c.words p 0) k.generation.low (inl word) z))) (hand_at c k w m.0) refl (λ q l x y z. z)

    pub release_keeps_names : (w p : ℕ) → refusal (release_needs c w p) ≡ None → EnteredIn (after_release c w p) logs' names
    release_keeps_names w p met =
        let m = all_met (release_needs c w p) met in
        let lt = inside p m.1.0 in
        let at = hand_at c k w m.0 in
        let listed = part_le (λ (y : HandState). times p y.sweeping) c.hands w (hand_of c w) at in
        let some_page = has_times p (hand_of c w).sweeping m.1.1.0 in
        let word = sweeping_list c.generation (tally c.generation c.words c.lives c.sets c.hands p) (k.page p lt).standing (omega arith) in
        let none : IsSettled c.generation (get_or c.words p 0) → ⊥ = unsettled c.generation (get_or c.words p 0) k.generation.low (inr (inl word.0)) in
        enters (set c.words p c.generation) _ w (end_sweep p (hand_of c w)) (length-set c.words p c.generation) (change_stays c.generation c.words c.lives p c.generation lt none keep_marked (λ l. refl)) at refl
        (λ q l x y z. (let d = times_end_else q p (hand_of c w).held (λ s. none (subst (λ (i : ℕ). IsSettled c.generation (get_or c.words i 0)) s x)) in omega arith))

    pub cache_keeps_names : (w p : ℕ) → refusal (cache_needs c w p) ≡ None → EnteredIn (after_cache c w p) logs' names
    cache_keeps_names w p met =
        let m = all_met (cache_needs c w p) met in
        let some_page = has_times p (hand_of c w).held m.1.1.0 in
        enters (set c.words p (c.generation + 3)) c.lives w (put_in_cache p (hand_of c w)) (length-set c.words p (c.generation + 3)) (word_stays c.generation c.words c.lives p (c.generation + 3) (inside p m.1.0) (λ z. inr refl)) (hand_at c k w m.0) refl
        (λ q l x y z. elim (cases_eq q p) [
          | inl same ↦ subst (λ (i : ℕ). 0 < times i (hand_of c w).held + times i (hand_of c w).cached) (sym same) (omega arith)
          | inr other ↦ (let a = times_erase_else q p (hand_of c w).held other in let b = times_end_else q p (hand_of c w).cached other in omega arith)
        ])

    pub uncache_keeps_names : (w p : ℕ) → refusal (uncache_needs c w p) ≡ None → EnteredIn (after_uncache c w p) logs' names
    uncache_keeps_names w p met =
        let m = all_met (uncache_needs c w p) met in
        let some_page = has_times p (hand_of c w).cached m.1.1.0 in
        enters (set c.words p c.generation) c.lives w (take_from_cache p (hand_of c w)) (length-set c.words p c.generation) (word_stays c.generation c.words c.lives p c.generation (inside p m.1.0) (λ z. inl refl)) (hand_at c k w m.0) refl
        (λ q l x y z. elim (cases_eq q p) [
          | inl same ↦ subst (λ (i : ℕ). 0 < times i (hand_of c w).held + times i (hand_of c w).cached) (sym same) (omega arith)
          | inr other ↦ (let a = times_erase_else q p (hand_of c w).cached other in let b = times_end_else q p (hand_of c w).held other in omega arith)
        ])

    pub stale_uncache_keeps_names : (w p : ℕ) → refusal (stale_uncache_needs c w p) ≡ None → EnteredIn (after_stale_uncache c w p) logs' names
    stale_uncache_keeps_names w p met =
        let m = all_met (stale_uncache_needs c w p) met in
        let word : get_or c.words p 0 ≡ c.generation + 1 = eqb-true _ _ m.1.1.1.0 in
        let none : IsSettled c.generation (get_or c.words p 0) → ⊥ = unsettled c.generation (get_or c.words p 0) k.generation.low (inr (inr (inl word))) in
        enters (set c.words p (c.generation - 1)) c.lives w (sweep_from_cache p (hand_of c w)) (length-set c.words p (c.generation - 1)) (word_stays c.generation c.words c.lives p (c.generation - 1) (inside p m.1.0) (λ z. absurd (none z)))
        (hand_at c k w m.0) refl
        (λ q l x y z. elim (cases_eq q p) [
          | inl same ↦ absurd (none (subst (λ (i : ℕ). IsSettled c.generation (get_or c.words i 0)) same x))
          | inr other ↦ (let a = times_erase_else q p (hand_of c w).cached other in omega arith)
        ])

    pub take_keeps_names : (w p pages count class : ℕ) → refusal (take_needs c w p pages count class) ≡ None → EnteredIn (after_take c w p pages count class) logs' names
    take_keeps_names w p pages count class met =
        let m = all_met (take_needs c w p pages count class) met in
        let lt = inside p m.1.0 in
        let some_page = ltb-true 0 pages (both _ _ m.1.1.1.1.1.0).0 in
        let unowned = run_free c k w p pages count class met p (omega arith) (omega arith) in
        let word : get_or c.words p 0 ≡ 0 = free_before c.generation c.words c.owners c.lives k.lives_fit p lt unowned in
        let none : IsSettled c.generation (get_or c.words p 0) → ⊥ = unsettled c.generation (get_or c.words p 0) k.generation.low (inr (inr (inr word))) in
        enters (set c.words p c.generation) _ w (hold p (hand_of c w)) (length-set c.words p c.generation) (append_stays c.generation c.words c.lives p c.generation lt none (new_life p pages count class) refl) (hand_at c k w m.0) refl
        (λ q l x y z. (let d = times_end_else q p (hand_of c w).held (λ s. none (subst (λ (i : ℕ). IsSettled c.generation (get_or c.words i 0)) s x)) in omega arith))

    pub cut_keeps_names : (w p pages count class : ℕ) → refusal (cut_needs c w p pages count class) ≡ None → EnteredIn (after_cut c w p pages count class) logs' names
    cut_keeps_names w p pages count class met =
        let m = all_met (cut_needs c w p pages count class) met in
        let lt = inside p m.1.0 in
        let at = hand_at c k w m.0 in
        let some_page = (cut_inside c k w p pages count class met).1 in
        let uncovered = pulled_uncovered c.generation c.words c.owners c.lives c.sets c.hands k w (hand_of c w) at p lt p (cut_pulled c k w p pages count class met p (omega arith) (omega arith)) in
        let word : get_or c.words p 0 ≡ 0 = free_uncovered c.generation c.words c.owners c.lives k.lives_fit p lt uncovered in
        let none : IsSettled c.generation (get_or c.words p 0) → ⊥ = unsettled c.generation (get_or c.words p 0) k.generation.low (inr (inr (inr word))) in
        enters (set c.words p c.generation) _ w (cut_span p pages (hand_of c w)) (length-set c.words p c.generation) (append_stays c.generation c.words c.lives p c.generation lt none (new_life p pages count class) refl) at refl
        (λ q l x y z. (let d = times_end_else q p (hand_of c w).held (λ s. none (subst (λ (i : ℕ). IsSettled c.generation (get_or c.words i 0)) s x)) in omega arith))

    pub pull_keeps_names : (w : ℕ) → refusal (pull_needs c w) ≡ None → EnteredIn (after_pull c w) logs' names
    pull_keeps_names w met =
        let m = all_met (pull_needs c w) met in
        enters c.words c.lives w (pull_pages (free_block c) (hand_of c w)) refl (λ q l x y. (x, refl, λ i. refl)) (hand_at c k w m.0) refl (λ q l x y z. z)

    pub drop_keeps_names : (w : ℕ) → refusal (drop_needs c w) ≡ None → EnteredIn (after_drop c w) logs' names
    drop_keeps_names w met =
        let m = all_met (drop_needs c w) met in
        enters c.words c.lives w (drop_pulled (hand_of c w)) refl (λ q l x y. (x, refl, λ i. refl)) (hand_at c k w m.0) refl (λ q l x y z. z)

    pub give_keeps_names : (w p : ℕ) → refusal (give_needs c w p) ≡ None → EnteredIn (after_give c w p) logs' names
    give_keeps_names w p met =
        let m = all_met (give_needs c w p) met in
        let none : length (life_in p c.lives).allocated ≡ 0 = eqb-true _ _ m.1.1.1.1.0 in
        enters (set c.words p 0) _ w (let_go p (hand_of c w)) (length-set c.words p 0) (drop_stays c.generation c.words c.lives p none) (hand_at c k w m.0) refl
        (λ q l x y z. elim (cases_eq q p) [
          | inl same ↦ (let some_index : 0 < length (life_in p c.lives).allocated = subst (λ (i : ℕ). 0 < length (life_in i c.lives).allocated) same y in absurd (omega arith))
          | inr other ↦ (let a = times_erase_else q p (hand_of c w).held other in omega arith)
        ])

    pub drop_popped_keeps_names : (w p : ℕ) → refusal (drop_popped_needs c w p) ≡ None → EnteredIn (after_drop_popped c w p) logs' names
    drop_popped_keeps_names w p met =
        let m = all_met (drop_popped_needs c w p) met in
        enters c.words c.lives w (drop_entry p (hand_of c w)) refl (λ q l x y. (x, refl, λ i. refl)) (hand_at c k w m.0) refl (λ q l x y z. z)

    pub pop_unswept_keeps_names : (w s : ℕ) → refusal (pop_unswept_needs c w s) ≡ None → EnteredIn (after_pop_unswept c w s) logs' names
    pop_unswept_keeps_names w s met =
        let m = all_met (pop_unswept_needs c w s) met in
        unswept_enters c.generation c.words c.owners c.lives c.sets c.hands k logs names e s (raise_head (set_of c s)) (not_true _ m.1.1.0) w (hand_of c w) (pop_entry (head_base c s) (hand_of c w)) (hand_at c k w m.0) refl refl refl logs' pops

    -- an object is placed in a cached span, or a large one in a span that is held: no unpopped cell or claim names it
    pub allocate_keeps_names : (w p i : ℕ) → refusal (allocate_needs c w p i) ≡ None → EnteredIn (after_allocate c p i) logs' names
    allocate_keeps_names w p i met =
        let m = all_met (allocate_needs c w p i) met in
        let at = hand_at c k w m.0 in
        let lt = inside p m.1.0 in
        let free = holder_is i _ m.1.1.1.1.0 in
        entered_logs c.generation (length c.words) c.words _ c.sets c.hands logs logs' names pops
        (allocate_enters c.generation c.words c.owners c.lives c.sets c.hands k logs names e p i (full-none (life_in p c.lives) i free)
        (elim (either_one (has p (hand_of c w).cached && eqb (get_or c.words p 0) (c.generation + 3)) (has p (hand_of c w).held && (eqb (get_or c.words p 0) c.generation && eqb (life_of c p).count 1)) m.1.1.1.0) [
          | inl cached ↦ cached_popped c.generation c.words c.owners c.lives c.sets c.hands k logs names e w (hand_of c w) at p lt (has_times p (hand_of c w).cached (both (has p (hand_of c w).cached) (eqb (get_or c.words p 0) (c.generation + 3)) cached).0)
          | inr held ↦ (
              let in_hand = both (has p (hand_of c w).held) (eqb (get_or c.words p 0) c.generation && eqb (life_of c p).count 1) held in
              let one : (life_in p c.lives).count ≡ 1 = eqb-true _ _ (both (eqb (get_or c.words p 0) c.generation) (eqb (life_of c p).count 1) in_hand.1).1 in
              let lower = free_below (life_in p c.lives).allocated (life_in p c.lives).count i free in
              let off = found-free (life_in p c.lives).allocated 0 (life_in p c.lives).count i free in
              λ j s there part n from l named. (
              let entry = (e.sets_name j s there part).entry n l in
              let used : 0 < length (life_in p c.lives).allocated = subst (λ (q : ℕ). 0 < length (life_in q c.lives).allocated) named entry.used in
              let begin : begins p c.lives ≡ true = subst (λ (q : ℕ). begins q c.lives ≡ true) named (begins_of (names j n) entry.low entry.word) in
              no_object (life_in p c.lives) i one lower off used (all_at ObjectsFit p c.lives k.objects begin)))
        ]))
      where
        begins_of : (q : ℕ) → q < length c.words → IsSettled c.generation (get_or c.words q 0) → begins q c.lives ≡ true
        begins_of q low word = k.lives_fit.begin q low ∙ ap not (ne_eqb (get_or c.words q 0) 0 (λ z. unsettled c.generation (get_or c.words q 0) k.generation.low (inr (inr (inr z))) word))

        no_object : (l : LifeState) (i : ℕ) → l.count ≡ 1 → i < l.count → has i l.allocated ≡ false → 0 < length l.allocated → ObjectsFit l → ⊥
        no_object l i one lower off used fits = go l.allocated refl used
          where
            go : (xs : List ℕ) → l.allocated ≡ xs → 0 < length l.allocated → ⊥
            go [] is some_index = let z : length l.allocated ≡ 0 = ap (λ (ys : List ℕ). length ys) is in omega arith
            go (x ∷ xs) is some_index =
                let there : 0 < times x l.allocated = subst (λ (ys : List ℕ). 0 < times x ys) (sym is) (let z = same_one x in omega arith) in
                let below = fits.allocated x there in
                let same : x ≡ i = omega arith in
                let on : has i l.allocated ≡ true = times_has i l.allocated (subst (λ (z : ℕ). 0 < times z l.allocated) same there) in
                true≢false (sym on ∙ off)

-- as a mark end comes, the logs are emptied, and the sets that were unswept ones are empty
pub next_keeps_names : (c : CoreState) (o : Owned c) (marks : List (ℕ × ℕ)) (logs : List (List Entry)) (names : ℕ → ℕ → ℕ) → refusal (next_needs c marks) ≡ None → ((n : ℕ) → log_of logs n ≡ []) → EnteredIn (after_next c marks) logs names
next_keeps_names c o marks logs names met silent =
    let m = all_met (next_needs c marks) met in
    empty_enters (c.generation + 2) (length c.words) c.words _ (empty_unswept c.generation 0 c.sets) (map forget_swept c.hands) logs names
    (λ j s at part. emptied-at c.generation 0 c.sets j s at (not-swept j part))
    (λ n h at. (let was = at-mapped c.hands n h at in ap (λ (y : HandState). y.claimed) (sym was.2) ∙ none_there was.0.claimed (not_found _ c.hands (none_there _ (not_true _ m.1.1.1.1.1.0)) n was.0 was.1)))
    silent
  where
    not-swept : (j : ℕ) → is_swept_set (c.generation + 2) j ≡ true → is_swept_set c.generation (0 + j) ≡ false
    not-swept j part = let z : 0 + j ≡ j = omega arith in subst (λ (i : ℕ). is_swept_set c.generation i ≡ false) (sym z) (not_true _ (sym (turns c.generation j) ∙ part))

    emptied-at : (g n : ℕ) (ss : List SetState) (j : ℕ) (s : SetState) → get_elem? (empty_unswept g n ss) j ≡ some s → is_swept_set g (n + j) ≡ false → (s.head ≡ 0) × (s.tail ≡ 0)
    emptied-at g n [] j s at off = absurd (some-ne-none s (sym at))
    emptied-at g n (x ∷ ss) zero s at off =
        let z : n + 0 ≡ n = omega arith in
        let off' : is_swept_set g n ≡ false = subst (λ (i : ℕ). is_swept_set g i ≡ false) z off in
        let blank : SetState = record x { head = 0; tail = 0; cells = [] } in
        let is : blank ≡ s = some-injective blank s (rw off' at at) in
        (ap (λ (y : SetState). y.head) (sym is), ap (λ (y : SetState). y.tail) (sym is))
    emptied-at g n (x ∷ ss) (suc j) s at off = emptied-at g (n + 1) ss j s at (let z : n + suc j ≡ n + 1 + j = omega arith in subst (λ (i : ℕ). is_swept_set g i ≡ false) z off)

    at-mapped : (hs : List HandState) (n : ℕ) (h : HandState) → get_elem? (map forget_swept hs) n ≡ some h → (y : HandState) × (get_elem? hs n ≡ some y) × (forget_swept y ≡ h)
    at-mapped [] n h at = absurd (some-ne-none h (sym at))
    at-mapped (y ∷ hs) zero h at = (y, refl, some-injective (forget_swept y) h at)
    at-mapped (y ∷ hs) (suc n) h at = at-mapped hs n h at
