-- Each move of span ownership keeps a cycle under way, from what the move needs and what its call asks.
use Rattle.std.proofs.Common.{◌≡◌, ◌≢◌, ℕ, zero, suc, ◌+◌, ◌-◌, ◌<◌, ◌≤◌, inl, inr, Bool, true, false, ◌&&◌, ◌||◌, not, eqb, ltb, List, [], ◌∷◌, ◌++◌, length, set, get_or, length-set, refl, sym, ◌∙◌, ap, subst, arith}
use Rattle.std.specs.Prelude.{Option, Some, None, slice_index, slice_set}
use Rattle.std.specs.List.{find, range_with_len}
use Rattle.std.proofs.lemmas.Bool.{cases_eq, cases_Bool, eq-eqb, ne_eqb, eqb-true, ltb-true}
use mathlib.Core.Option.{some, some-injective}
use lib.ListN.{get_elem?}
use Rattle.page_bitmap.specs.declared.line.Line.TheVariants.{Take, Give, Pull}
use Rattle.page_alloc.specs.Lists.{In}
use Rattle.page_alloc.specs.Lives.{Life, open_lives}
use Rattle.span_state.specs.Bits.{count_below}
use Rattle.sound_run.specs.Run.{count_for, IsJournal}
use Rattle.sweep_laws.specs.declared.moves.Claimed.{Claimed}
use Rattle.sweep_laws.specs.declared.moves.Move.TheVariants.{Give as GiveMove}
use Rattle.sweep_laws.specs.Counts.{times}
use Rattle.sweep_laws.specs.Lists.{has}
use Rattle.sweep_laws.specs.Named.{begins}
use Rattle.sweep_laws.specs.Reading.{hand_of, set_of, life_of, life_in, no_life, allocated_at}
use Rattle.sweep_laws.specs.NeedsOfRange.{refusal}
use Rattle.sweep_laws.specs.Needs.{take_needs, give_needs, acquire_needs, release_needs, cache_needs, allocate_needs, uncache_needs, stale_uncache_needs, claim_needs, fill_needs, pop_swept_needs, pop_unswept_needs, drop_popped_needs, pull_needs, cut_needs, drop_needs}
use Rattle.sweep_laws.specs.ChangesOfHands.{hold, let_go, start_sweep, end_sweep, put_in_cache, take_from_cache, sweep_from_cache, claim_cell, fill_cell, pop_entry, drop_entry, pull_pages, cut_span, drop_pulled}
use Rattle.sweep_laws.specs.ChangesOfLives.{drop_life, change_life, keep_marked, allocate_index}
use Rattle.sweep_laws.specs.ChangesOfSets.{raise_head, raise_tail, head_base}
use Rattle.sweep_laws.specs.Changes.{with_hand, with_word, after_lock, after_unlock, after_take, after_give, after_acquire, after_release, after_cache, after_allocate as core_allocate, after_uncache, after_stale_uncache, after_claim, after_fill, after_fill_of, after_pop_swept, after_pop_unswept, after_drop_popped, after_pull, after_cut, after_drop}
use Rattle.sweep_laws.specs.Owned.{Owned}
use Rattle.sweep_laws.specs.Standing.{tally}
use Rattle.sweep_laws.specs.State.{LifeState, SetState, HandState, CoreState}
use Rattle.sweep_laws.proofs.Forms.{kept_of}
use Rattle.sweep_laws.proofs.HeapMoves.{free_before, free_uncovered, pulled_uncovered}
use Rattle.sweep_laws.proofs.MovesKept.{hand_at, run_free, move_kept, cut_inside, cut_pulled}
use Rattle.sweep_laws.proofs.Naming.{has_times, times_erase_else, set_here, set_else}
use Rattle.sweep_laws.proofs.NeedsMet.{all_met, both, either_one, empty_list, holder_is, some_none}
use Rattle.sweep_laws.proofs.Objects.{free_below}
use Rattle.sweep_laws.proofs.Standings.{held_list, sweeping_list}
use Rattle.sweep_laws.proofs.Totals.{times_append, times_end, part_le, inside_at}
use Rattle.worker_log.specs.declared.Placing.{Placing}
use Rattle.worker_log.specs.declared.Sweeping.{Sweeping}
use Rattle.worker_log.specs.SweptLast.{is_swept_last}
use Rattle.run_laws.specs.CycleSoFar.{CycleSoFar, past_after}
use Rattle.run_laws.specs.PlacingFacts.{IsIn}
use Rattle.run_laws.specs.Steps.{after_sweep, after_allocate, after_took, after_gave}
use Rattle.run_laws.specs.Keeping.{KeepsRoom, HasOneOf}
use Rattle.run_laws.specs.Shown.{bits_of, marks_of, is_waiting, waits_of, has_of, LivesShown}
use Rattle.run_laws.specs.ShowsCycle.{ShowsCycle, MayLetGo, IsSweepOf}
use Rattle.run_laws.proofs.Keeping.{core-ones, room-gets, room-lets_go}
use Rattle.run_laws.proofs.Shown.{waits-same, waiting-sweep, waiting-below, waiting-above, settled-word, absent-life}
use Rattle.run_laws.specs.Blocks.{OutBlock, settled_lines}
use Rattle.run_laws.specs.ShowsBlocks.{ShowsBlocks, after_pulled, after_cut_out, after_settled}
use Rattle.run_laws.proofs.Lines.{page-there}
use Rattle.run_laws.proofs.CoreEnded.{shown-begins, change-shown, new-shown}
use Rattle.run_laws.proofs.ShowsKept.{shows-frame, shows-release, shows-allocate, shows-take, shows-give, shows-pull, shows-cut, shows-settle}

-- ---- hands

-- a worker has the page yet after its hand changed
pub has-turned : (c new : CoreState) (w : ℕ) (h h' : HandState) → length new.words ≡ length c.words → new.hands ≡ set c.hands w h' → get_elem? c.hands w ≡ some h → (v q : ℕ)
    → (v ≡ w → 0 < times q h.held + times q h.cached → 0 < times q h'.held + times q h'.cached) → has_of c v q → has_of new v q
has-turned c new w h h' size hands at v q gains has =
    let inside = inside_at c.hands w h at in
    let low = has.0 in
    elim (cases_eq v w) [
      | inl same ↦ (
          let e : has.1 ≡ h = some-injective has.1 h (sym has.2 ∙ ap (get_elem? c.hands) same ∙ at) in
          let more : 0 < times q h.held + times q h.cached = subst (λ (y : HandState). 0 < times q y.held + times q y.cached) e has.3 in
          (omega arith, h', ap (λ (hs : List HandState). get_elem? hs v) hands ∙ ap (get_elem? (set c.hands w h')) same ∙ set_here c.hands w h' inside, gains same more))
      | inr other ↦ (omega arith, has.1, ap (λ (hs : List HandState). get_elem? hs v) hands ∙ set_else c.hands w v h' other ∙ has.2, has.3)
    ]

-- ---- the least free index

least-free : (xs : List ℕ) (a n i : ℕ) → find (λ j. not (has j xs)) (range_with_len a n) ≡ Some i → (has i xs ≡ false) × ((j : ℕ) → a ≤ j → j < i → has j xs ≡ true)
least-free xs a zero i e = absurd (some_none i (sym e))
least-free xs a (suc n) i e = elim (cases_Bool (has a xs)) [
  | inl on ↦ (
      let e' : find (λ j. not (has j xs)) (range_with_len (a + 1) n) ≡ Some i = rw on at e in
      let rest = least-free xs (a + 1) n i e' in
      (rest.0, λ j le lt. elim (cases_eq j a) [ inl same ↦ ap (λ (k : ℕ). has k xs) same ∙ on | inr other ↦ rest.1 j (omega arith) lt ]))
  | inr off ↦ (
      let e' : Some a ≡ Some i = rw off at e in
      let same : a ≡ i = some-same a i e' in
      (ap (λ (k : ℕ). has k xs) (sym same) ∙ off, λ j le lt. absurd (omega arith)))
]
  where
    some-same : (x y : ℕ) → Some x ≡ Some y → x ≡ y
    some-same x y h = cc

-- a word at which a worker may allocate says that the span is swept
word-settled : (g x n : ℕ) (cached held : Bool) → 4 ≤ g → ((cached && eqb x (g + 3)) || (held && (eqb x g && eqb n 1))) ≡ true → is_waiting g x ≡ false
word-settled g x n cached held low h = elim (either_one (cached && eqb x (g + 3)) (held && (eqb x g && eqb n 1)) h) [
  | inl in_cache ↦ settled-word g x low (inr (inr (eqb-true x (g + 3) (both cached (eqb x (g + 3)) in_cache).1)))
  | inr in_hand ↦ settled-word g x low (inr (inl (eqb-true x g (both (eqb x g) (eqb n 1) (both held (eqb x g && eqb n 1) in_hand).1).0)))
]

-- the marks of lives that differ in what they have allocated alone
kept-changed : (p q : ℕ) (f : LifeState → LifeState) (ls : List LifeState) → ((l : LifeState) → (f l).page ≡ l.page) → ((l : LifeState) → (f l).kept ≡ l.kept) → (life_in q (change_life p f ls)).kept ≡ (life_in q ls).kept
kept-changed p q f [] page kept = refl
kept-changed p q f (l ∷ ls) page kept = elim (cases_Bool (eqb l.page p)) [
  | inl on ↦ rw on (elim (cases_Bool (eqb l.page q)) [
    | inl here ↦ (let here' : eqb (f l).page q ≡ true = ap (λ (n : ℕ). eqb n q) (page l) ∙ here in rw (here, here') (kept l))
    | inr there ↦ (let there' : eqb (f l).page q ≡ false = ap (λ (n : ℕ). eqb n q) (page l) ∙ there in rw (there, there') refl)
  ])
  | inr off ↦ rw off (elim (cases_Bool (eqb l.page q)) [
    | inl here ↦ rw here refl
    | inr there ↦ rw there (kept-changed p q f ls page kept)
  ])
]

-- a life more or less changes the marks of no other
kept-append : (q : ℕ) (m : LifeState) (ls : List LifeState) → m.kept ≡ [] → (life_in q (ls ++ m ∷ [])).kept ≡ (life_in q ls).kept
kept-append q m [] none = elim (cases_Bool (eqb m.page q)) [ inl on ↦ rw on none | inr off ↦ rw off refl ]
kept-append q m (l ∷ ls) none = elim (cases_Bool (eqb l.page q)) [ inl on ↦ rw on refl | inr off ↦ rw off (kept-append q m ls none) ]

kept-drop : (p q : ℕ) (ls : List LifeState) → q ≢ p → (life_in q (drop_life p ls)).kept ≡ (life_in q ls).kept
kept-drop p q [] other = refl
kept-drop p q (l ∷ ls) other = elim (cases_eq l.page p) [
  | inl on ↦ (
      let e : eqb l.page p ≡ true = eq-eqb l.page p on in
      let d : eqb l.page q ≡ false = ne_eqb l.page q (λ z. other (sym z ∙ on)) in
      rw e (rw d refl))
  | inr off ↦ (
      let e : eqb l.page p ≡ false = ne_eqb l.page p off in
      rw e (elim (cases_Bool (eqb l.page q)) [ inl here ↦ rw here refl | inr there ↦ rw there (kept-drop p q ls other) ]))
]

module _ (region goal : ℕ) (c : CoreState) (e : CycleSoFar) (now : ShowsCycle region goal c e) (blocks : ShowsBlocks c e) (o : Owned c) where
  low : 4 ≤ c.generation
  low = (kept_of c o).generation.low

  inside : (p : ℕ) → ltb p (length c.words) ≡ true → p < length c.words
  inside p h = ltb-true p (length c.words) h

  -- one word and one hand change
  turn : (w p x : ℕ) (h' : HandState) → get_elem? c.hands w ≡ some (hand_of c w) → p < length c.words → is_waiting c.generation x ≡ is_waiting c.generation (slice_index c.words p)
      → KeepsRoom e (has_of (with_hand (with_word c p x) w h')) → ShowsCycle region goal (with_hand (with_word c p x) w h') e
  turn w p x h' at lt same room = shows-frame region goal c (with_hand (with_word c p x) w h') e now (λ q k. refl) (λ q. waits-same c.words c.generation p x lt same q) (λ q k is. refl)
      record { begin = now.lives.begin; same = now.lives.same } room (length-set c.words p x)

  -- and the worker has all that it had
  turn-keeping : (w p x : ℕ) (h' : HandState) → get_elem? c.hands w ≡ some (hand_of c w) → p < length c.words → is_waiting c.generation x ≡ is_waiting c.generation (slice_index c.words p)
      → ((q : ℕ) → 0 < times q (hand_of c w).held + times q (hand_of c w).cached → 0 < times q h'.held + times q h'.cached) → ShowsCycle region goal (with_hand (with_word c p x) w h') e
  turn-keeping w p x h' at lt same gains = turn w p x h' at lt same
      (room-gets e (has_of c) (has_of (with_hand (with_word c p x) w h')) (λ v q has. has-turned c (with_hand (with_word c p x) w h') w (hand_of c w) h' (length-set c.words p x) refl at v q (λ s. gains q) has) now.room)

  -- one hand and the sets change
  turn-hand : (ss : List SetState) (w : ℕ) (h' : HandState) → get_elem? c.hands w ≡ some (hand_of c w)
      → ((q : ℕ) → 0 < times q (hand_of c w).held + times q (hand_of c w).cached → 0 < times q h'.held + times q h'.cached) → ShowsCycle region goal (record c { sets = ss; hands = slice_set c.hands w h' }) e
  turn-hand ss w h' at gains =
      let new : CoreState = record c { sets = ss; hands = slice_set c.hands w h' } in
      shows-frame region goal c new e now (λ q k. refl) (λ q. refl) (λ q k is. refl) record { begin = now.lives.begin; same = now.lives.same }
      (room-gets e (has_of c) (has_of new) (λ v q has. has-turned c new w (hand_of c w) h' refl refl at v q (λ s. gains q) has) now.room) refl

  -- ---- the lock

  pub lock-shows : (w : ℕ) → ShowsCycle region goal (after_lock c w) e
  lock-shows w = shows-frame region goal c (after_lock c w) e now (λ q k. refl) (λ q. refl) (λ q k is. refl) record { begin = now.lives.begin; same = now.lives.same } now.room refl

  pub unlock-shows : ShowsCycle region goal (after_unlock c) e
  unlock-shows = shows-frame region goal c (after_unlock c) e now (λ q k. refl) (λ q. refl) (λ q k is. refl) record { begin = now.lives.begin; same = now.lives.same } now.room refl

  -- ---- sweeps

  pub acquire-shows : (w p : ℕ) → refusal (acquire_needs c w p) ≡ None → ShowsCycle region goal (after_acquire c w p) e
  acquire-shows w p met =
      let m = all_met (acquire_needs c w p) met in
      let word : slice_index c.words p + 2 ≡ c.generation = eqb-true _ _ m.1.1.0 in
      turn-keeping w p (c.generation - 1) (start_sweep p (hand_of c w)) (hand_at c (kept_of c o) w m.0) (inside p m.1.0)
      (waiting-sweep c.generation low ∙ sym (waiting-below c.generation (slice_index c.words p) word)) (λ q h. h)

  -- a stale span leaves the cache: nothing was placed in it
  pub stale_uncache-shows : (w p : ℕ) → refusal (stale_uncache_needs c w p) ≡ None → ShowsCycle region goal (after_stale_uncache c w p) e
  stale_uncache-shows w p met =
      let m = all_met (stale_uncache_needs c w p) met in
      let word : slice_index c.words p ≡ c.generation + 1 = eqb-true _ _ m.1.1.1.0 in
      let waits : waits_of c p ≡ true = waiting-above c.generation (slice_index c.words p) word in
      let h' : HandState = sweep_from_cache p (hand_of c w) in
      let new : CoreState = after_stale_uncache c w p in
      let at = hand_at c (kept_of c o) w m.0 in
      turn w p (c.generation - 1) h' at (inside p m.1.0) (waiting-sweep c.generation low ∙ sym waits)
      (λ v b j h lt off. elim (cases_eq b.page p) [
        | inl same ↦ (
            let x = now.under.waiting.not_placed v b h in
            let y : waits_of c b.page ≡ waits_of c p = ap (waits_of c) same in
            let none : ⊥ = cc in
            absurd none)
        | inr other ↦ has-turned c new w (hand_of c w) h' (length-set c.words p (c.generation - 1)) refl at v b.page
            (λ s some. (let z = times_erase_else b.page p (hand_of c w).cached other in omega arith)) (now.room v b j h lt off)
      ])

  pub release-shows : (w p : ℕ) (s : Sweeping) → refusal (release_needs c w p) ≡ None → IsSweepOf c p s → (life : Life) × (life.page ≡ p) × ShowsCycle region goal (after_release c w p) (after_sweep e w life s)
  release-shows w p s met counts =
      let m = all_met (release_needs c w p) met in
      let lt = inside p m.1.0 in
      let at = hand_at c (kept_of c o) w m.0 in
      let listed = part_le (λ (y : HandState). times p y.sweeping) c.hands w (hand_of c w) at in
      let some = has_times p (hand_of c w).sweeping m.1.1.0 in
      let word = sweeping_list c.generation (tally c.generation c.words c.lives c.sets c.hands p) ((kept_of c o).page p lt).standing (omega arith) in
      let waits : waits_of c p ≡ true = waiting-one c.generation (slice_index c.words p) word.0 in
      let there = now.under.waiting.old p waits in
      (there.0, there.3, with_page there.0 there.1 there.2 there.3)
    where
      waiting-one : (g x : ℕ) → x + 1 ≡ g → is_waiting g x ≡ true
      waiting-one g x e = (let a = eq-eqb (x + 1) g e in let b : eqb (x + 2) g ≡ false = ne_eqb (x + 2) g (λ z. omega arith) in rw (b, a) refl)

      with_page : (life : Life) → In life (open_lives e.before) → In life (open_lives (past_after e)) → life.page ≡ p → ShowsCycle region goal (after_release c w p) (after_sweep e w life s)
      with_page life old here page =
          let m = all_met (release_needs c w p) met in
          let lt = inside p m.1.0 in
          let at = hand_at c (kept_of c o) w m.0 in
          let listed = part_le (λ (y : HandState). times p y.sweeping) c.hands w (hand_of c w) at in
          let some = has_times p (hand_of c w).sweeping m.1.1.0 in
          let word = sweeping_list c.generation (tally c.generation c.words c.lives c.sets c.hands p) ((kept_of c o).page p lt).standing (omega arith) in
          let waits : waits_of c p ≡ true = waiting-one c.generation (slice_index c.words p) word.0 in
          let is = (blocks.lives life here).1 in
          let count : (life_of c p).count ≡ count_for life.class = ap (λ (q : ℕ). (life_of c q).count) (sym page) ∙ is.count in
          let new : CoreState = after_release c w life.page in
          let lives : LivesShown new e.known = change-shown c new e.known life.page keep_marked refl (λ l. record { page = refl; pages = refl; class = refl }) (λ l. refl) now.lives in
          let done : ShowsCycle region goal new (after_sweep e w life s) = shows-release region goal c e w life s now old (ap (waits_of c) page ∙ waits) (rw page lt) (blocks.lives life here).0 (counts.page ∙ sym page)
          (counts.kept ∙ ap (λ (n : ℕ). count_below n (λ k. marks_of c p k)) count ∙ ap (λ (q : ℕ). count_below (count_for life.class) (λ k. marks_of c q k)) (sym page))
          (counts.freed ∙ ap (λ (n : ℕ). count_below n (λ k. bits_of c p k && not (marks_of c p k))) count ∙ ap (λ (q : ℕ). count_below (count_for life.class) (λ k. bits_of c q k && not (marks_of c q k))) (sym page))
          low
          (λ q k other. ap (λ (xs : List ℕ). has k xs) (kept-changed life.page q keep_marked c.lives (λ l. refl) (λ l. refl)))
          lives
          (λ v q has. has-turned c new w (hand_of c w) (end_sweep life.page (hand_of c w)) (length-set c.words life.page c.generation) refl at v q
          (λ same had. (let z = times_append q (hand_of c w).held (life.page ∷ []) in omega arith)) has)
          (length-set c.words life.page c.generation) in
          subst (λ (q : ℕ). ShowsCycle region goal (after_release c w q) (after_sweep e w life s)) page done

  -- ---- the cache

  pub cache-shows : (w p : ℕ) → refusal (cache_needs c w p) ≡ None → ShowsCycle region goal (after_cache c w p) e
  cache-shows w p met =
      let m = all_met (cache_needs c w p) met in
      let lt = inside p m.1.0 in
      let at = hand_at c (kept_of c o) w m.0 in
      let listed = part_le (λ (y : HandState). times p y.held) c.hands w (hand_of c w) at in
      let some = has_times p (hand_of c w).held m.1.1.0 in
      let word = held_list c.generation (tally c.generation c.words c.lives c.sets c.hands p) ((kept_of c o).page p lt).standing (omega arith) in
      turn-keeping w p (c.generation + 3) (put_in_cache p (hand_of c w)) at lt
      (settled-word c.generation (c.generation + 3) low (inr (inr refl)) ∙ sym (settled-word c.generation (slice_index c.words p) low (inr (inl word.0))))
      (λ q had. elim (cases_eq q p) [
        | inl same ↦ (let z = times_end p (hand_of c w).cached in let y : times q ((hand_of c w).cached ++ p ∷ []) ≡ times p ((hand_of c w).cached ++ p ∷ []) = ap (λ (r : ℕ). times r ((hand_of c w).cached ++ p ∷ [])) same in omega arith)
        | inr other ↦ (let z = times_erase_else q p (hand_of c w).held other in let y = times_append q (hand_of c w).cached (p ∷ []) in omega arith)
      ])

  pub uncache-shows : (w p : ℕ) → refusal (uncache_needs c w p) ≡ None → ShowsCycle region goal (after_uncache c w p) e
  uncache-shows w p met =
      let m = all_met (uncache_needs c w p) met in
      let word : slice_index c.words p ≡ c.generation + 3 = eqb-true _ _ m.1.1.1.0 in
      turn-keeping w p c.generation (take_from_cache p (hand_of c w)) (hand_at c (kept_of c o) w m.0) (inside p m.1.0)
      (settled-word c.generation c.generation low (inr (inl refl)) ∙ sym (settled-word c.generation (slice_index c.words p) low (inr (inr word))))
      (λ q had. elim (cases_eq q p) [
        | inl same ↦ (let z = times_end p (hand_of c w).held in let y : times q ((hand_of c w).held ++ p ∷ []) ≡ times p ((hand_of c w).held ++ p ∷ []) = ap (λ (r : ℕ). times r ((hand_of c w).held ++ p ∷ [])) same in omega arith)
        | inr other ↦ (let z = times_erase_else q p (hand_of c w).cached other in let y = times_append q (hand_of c w).held (p ∷ []) in omega arith)
      ])

  -- ---- the sets

  pub claim-shows : (w s p : ℕ) → refusal (claim_needs c w s p) ≡ None → ShowsCycle region goal (after_claim c w s p) e
  claim-shows w s p met =
      let m = all_met (claim_needs c w s p) met in
      turn-hand (slice_set c.sets s (raise_tail (set_of c s))) w (claim_cell s (set_of c s).tail p (hand_of c w)) (hand_at c (kept_of c o) w m.0) (λ q h. h)

  -- the worker lets the claimed page go
  pub fill-shows : (w : ℕ) (d : Claimed) → refusal (fill_needs c w) ≡ None → (hand_of c w).claimed ≡ Some d → MayLetGo c e w d.page → ShowsCycle region goal (after_fill c w) e
  fill-shows w d met claims may =
      let m = all_met (fill_needs c w) met in
      let at = hand_at c (kept_of c o) w m.0 in
      let fits = (kept_of c o).sets_fit.claim w (hand_of c w) at d claims in
      let h' : HandState = fill_cell d.page (hand_of c w) in
      let new : CoreState = after_fill_of (Some d) c w in
      let held = fits.held in
      let mine : has_of c w d.page = (fits.is_page, hand_of c w, at, omega arith) in
      let room : KeepsRoom e (has_of new) = room-lets_go e (has_of c) (has_of new) w d.page (core-ones c (kept_of c o)) mine
      (λ v q other has. has-turned c new w (hand_of c w) h' refl refl at v q (λ same had. (let z = times_erase_else q d.page (hand_of c w).held other in omega arith)) has)
      (λ b j h page lt. now.bits d.page j ∙ may b j h page lt) now.room in
      let done : ShowsCycle region goal new e = shows-frame region goal c new e now (λ q k. refl) (λ q. refl) (λ q k is. refl) record { begin = now.lives.begin; same = now.lives.same } room refl in
      subst (λ (x : Option Claimed). ShowsCycle region goal (after_fill_of x c w) e) (sym claims) done

  pub pop_swept-shows : (w s : ℕ) → refusal (pop_swept_needs c w s) ≡ None → ShowsCycle region goal (after_pop_swept c w s) e
  pop_swept-shows w s met =
      let m = all_met (pop_swept_needs c w s) met in
      turn-hand (slice_set c.sets s (raise_head (set_of c s))) w (hold (head_base c s) (hand_of c w)) (hand_at c (kept_of c o) w m.0)
      (λ q h. (let z = times_append q (hand_of c w).held (head_base c s ∷ []) in omega arith))

  pub pop_unswept-shows : (w s : ℕ) → refusal (pop_unswept_needs c w s) ≡ None → ShowsCycle region goal (after_pop_unswept c w s) e
  pop_unswept-shows w s met =
      let m = all_met (pop_unswept_needs c w s) met in
      turn-hand (slice_set c.sets s (raise_head (set_of c s))) w (pop_entry (head_base c s) (hand_of c w)) (hand_at c (kept_of c o) w m.0) (λ q h. h)

  pub drop_popped-shows : (w p : ℕ) → refusal (drop_popped_needs c w p) ≡ None → ShowsCycle region goal (after_drop_popped c w p) e
  drop_popped-shows w p met =
      let m = all_met (drop_popped_needs c w p) met in
      turn-hand c.sets w (drop_entry p (hand_of c w)) (hand_at c (kept_of c o) w m.0) (λ q h. h)

  -- ---- objects

  -- an object is placed in a span that the worker has, where it has no other of the class with objects of this cycle
  pub allocate-shows : (w : ℕ) (life : Life) (a : Placing) → refusal (allocate_needs c w a.page a.index) ≡ None → In life e.known → IsIn a life → life.number ≡ a.number → HasOneOf e (has_of c) w a.class a.page
      → ShowsCycle region goal (core_allocate c a.page a.index) (after_allocate e w a)
  allocate-shows w life a met here is number one =
      let m = all_met (allocate_needs c w a.page a.index) met in
      let at = hand_at c (kept_of c o) w m.0 in
      let lt = inside a.page m.1.0 in
      let mine : 0 < times a.page (hand_of c w).held + times a.page (hand_of c w).cached = elim (either_one _ _ m.1.1.0) [
        | inl cached ↦ (let z = has_times a.page (hand_of c w).cached cached in omega arith)
        | inr held ↦ (let z = has_times a.page (hand_of c w).held held in omega arith)
      ] in
      let settled : waits_of c a.page ≡ false = word-settled c.generation (slice_index c.words a.page) (life_of c a.page).count (has a.page (hand_of c w).cached) (has a.page (hand_of c w).held) low m.1.1.1.0 in
      let free = holder_is a.index _ m.1.1.1.1.0 in
      let below = free_below (life_of c a.page).allocated (life_of c a.page).count a.index free in
      let least = least-free (life_of c a.page).allocated 0 (life_of c a.page).count a.index free in
      let shown = now.lives.same life here in
      let count : (life_of c a.page).count ≡ count_for a.class = ap (λ (q : ℕ). (life_of c q).count) (sym is.page) ∙ shown.count ∙ ap count_for is.class in
      let new : CoreState = core_allocate c a.page a.index in
      shows-allocate region goal c e w life a (kept_of c o) now here is number settled (subst (λ (n : ℕ). a.index < n) count below) least.0 (λ j lower. least.1 j (omega arith) lower)
      (subst (λ (q : ℕ). begins q c.lives ≡ true) is.page (shown-begins c e.known life now.lives here)) (lt, hand_of c w, at, mine) one
      (λ q k. ap (λ (xs : List ℕ). has k xs) (kept-changed a.page q (allocate_index a.index) c.lives (λ l. refl) (λ l. refl)))
      (change-shown c new e.known a.page (allocate_index a.index) refl (λ l. record { page = refl; pages = refl; class = refl }) (λ l. refl) now.lives)

  -- ---- the heap

  -- a span is taken at first fit, with its line
  pub take-shows : (w p pages count class : ℕ) → refusal (take_needs c w p pages count class) ≡ None → IsJournal region goal (Take e.cycle p pages class ∷ past_after e) → count ≡ count_for class
      → ShowsCycle region goal (after_take c w p pages count class) (after_took e w p pages class)
  take-shows w p pages count class met legal same =
      let m = all_met (take_needs c w p pages count class) met in
      let at = hand_at c (kept_of c o) w m.0 in
      let lt = inside p m.1.0 in
      let some_page = ltb-true 0 pages (both _ _ m.1.1.1.1.1.0).0 in
      let unowned = run_free c (kept_of c o) w p pages count class met p (omega arith) (omega arith) in
      let word : slice_index c.words p ≡ 0 = free_before c.generation c.words c.owners c.lives (kept_of c o).lives_fit p lt unowned in
      let none : begins p c.lives ≡ false = (kept_of c o).lives_fit.begin p lt ∙ ap not (eq-eqb (slice_index c.words p) 0 word) in
      let absent : life_in p c.lives ≡ no_life = absent-life p c.lives none in
      let new : CoreState = after_take c w p pages count class in
      shows-take region goal c e w p pages count class now legal (sym (now.lives.begin p) ∙ none) low lt word (λ k. ap (λ (l : LifeState). has k l.allocated) absent)
      (λ q k is. ap (λ (xs : List ℕ). has k xs) (kept-append q _ c.lives refl))
      (λ v q has. has-turned c new w (hand_of c w) (hold p (hand_of c w)) (length-set c.words p c.generation) refl at v q (λ s had. (let z = times_append q (hand_of c w).held (p ∷ []) in omega arith)) has)
      (new-shown c new e.known (length (past_after e)) e.cycle p pages count class now.lives none same refl) (length-set c.words p c.generation)

  -- a span is given back by the worker that swept it in this cycle and has not taken or given its page since, with its line
  pub give-shows : (w p : ℕ) → refusal (give_needs c w p) ≡ None → is_swept_last p (e.logs w) ≡ true → IsJournal region goal (Give e.cycle p (life_of c p).pages ∷ past_after e)
      → ShowsCycle region goal (after_give c w p) (after_gave e w p (life_of c p).pages)
  give-shows w p met swept legal =
      let m = all_met (give_needs c w p) met in
      let at = hand_at c (kept_of c o) w m.0 in
      let lt = inside p m.1.0 in
      let listed = part_le (λ (y : HandState). times p y.held) c.hands w (hand_of c w) at in
      let some = has_times p (hand_of c w).held m.1.1.1.0 in
      let word = held_list c.generation (tally c.generation c.words c.lives c.sets c.hands p) ((kept_of c o).page p lt).standing (omega arith) in
      let none : allocated_at c p ≡ [] = empty_list (allocated_at c p) m.1.1.1.1.0 in
      let after_kept = move_kept c (kept_of c o) (GiveMove w p) met in
      let gone : begins p (drop_life p c.lives) ≡ false = after_kept.lives_fit.begin p (let z : length (set c.words p 0) ≡ length c.words = length-set c.words p 0 in omega arith) ∙ ap not (eq-eqb (get_or (set c.words p 0) p 0) 0 (word_here p lt)) in
      let there = now.tell.old w p swept in
      given there.0 there.1 there.2 there.3 lt at word.0 none gone
    where
      word_here : (p : ℕ) → p < length c.words → get_or (set c.words p 0) p 0 ≡ 0
      word_here p lt = Rattle.std.proofs.lemmas.List.get_or-set_same c.words p 0 0 lt

      given : (life : Life) → In life (open_lives (past_after e)) → life.page ≡ p → life.number < length e.before → p < length c.words → get_elem? c.hands w ≡ some (hand_of c w) → slice_index c.words p ≡ c.generation
          → allocated_at c p ≡ [] → begins p (drop_life p c.lives) ≡ false → ShowsCycle region goal (after_give c w p) (after_gave e w p (life_of c p).pages)
      given life here page old lt at word none gone =
          let pages : (life_of c p).pages ≡ life.pages = ap (λ (q : ℕ). (life_of c q).pages) (sym page) ∙ (blocks.lives life here).1.pages in
          let told = page-there life.page e.known (sym (now.lives.begin life.page) ∙ (blocks.lives life here).0) in
          let legal' : IsJournal region goal (Give e.cycle life.page life.pages ∷ past_after e) = subst (λ (x : ℕ × ℕ). IsJournal region goal (Give e.cycle x.0 x.1 ∷ past_after e)) (λ i. (sym page i, pages i)) legal in
          let new : CoreState = after_give c w life.page in
          let done : ShowsCycle region goal new (after_gave e w life.page life.pages) = shows-give region goal c e w life told.0 now legal' here told.1 told.2 old (ap (slice_index c.words) page ∙ word) low (rw page lt) (ap (allocated_at c) page ∙ none)
          (subst (λ (q : ℕ). begins q (drop_life q c.lives) ≡ false) (sym page) gone) (subst (λ (q : ℕ). is_swept_last q (e.logs w) ≡ true) (sym page) swept)
          (λ q k is. (
          let other : q ≢ life.page = λ same. (
          let off = settled-word c.generation (slice_index c.words p) low (inr (inl word)) in
          let e1 : waits_of c q ≡ waits_of c p = ap (waits_of c) (same ∙ page) in
          let nothing : ⊥ = cc in
          nothing) in
          ap (λ (xs : List ℕ). has k xs) (kept-drop life.page q c.lives other)))
          (λ v q other has. has-turned c new w (hand_of c w) (let_go life.page (hand_of c w)) (length-set c.words life.page 0) refl at v q (λ s had. (let z = times_erase_else q life.page (hand_of c w).held other in omega arith)) has)
          (length-set c.words life.page 0) in
          subst (λ (x : ℕ × ℕ). ShowsCycle region goal (after_give c w x.0) (after_gave e w x.0 x.1)) (λ i. (page i, sym pages i)) done

  -- ---- page caches

  -- a block is pulled, with its line
  pub pull-shows : (w page pages : ℕ) → refusal (pull_needs c w) ≡ None → IsJournal region goal (Pull e.cycle w page pages ∷ past_after e) → ShowsCycle region goal (after_pull c w) (after_pulled e w page pages)
  pull-shows w page pages met legal =
      let m = all_met (pull_needs c w) met in
      let new : CoreState = after_pull c w in
      shows-pull region goal c new e w page pages now legal refl refl refl
      (λ v q has. has-turned c new w (hand_of c w) (pull_pages (Rattle.sweep_laws.specs.Reading.free_block c) (hand_of c w)) refl refl (hand_at c (kept_of c o) w m.0) v q (λ same had. had) has)

  -- a block is settled, with its lines
  pub drop-shows : (w : ℕ) (b : OutBlock) → refusal (drop_needs c w) ≡ None → IsJournal region goal (settled_lines e.cycle w (Some b) ++ past_after e) → ShowsCycle region goal (after_drop c w) (after_settled e w b)
  drop-shows w b met legal =
      let m = all_met (drop_needs c w) met in
      let new : CoreState = after_drop c w in
      shows-settle region goal c new e w b now legal refl refl refl
      (λ v q has. has-turned c new w (hand_of c w) (drop_pulled (hand_of c w)) refl refl (hand_at c (kept_of c o) w m.0) v q (λ same had. had) has)

  -- a span is cut out of a block: no life began there, and nothing was allocated
  pub cut-shows : (w n p pages count class : ℕ) → refusal (cut_needs c w p pages count class) ≡ None → count ≡ count_for class
      → ShowsCycle region goal (after_cut c w p pages count class) (after_cut_out e w n p pages class)
  cut-shows w n p pages count class met same =
      let m = all_met (cut_needs c w p pages count class) met in
      let at = hand_at c (kept_of c o) w m.0 in
      let lt = inside p m.1.0 in
      let some_page = (cut_inside c (kept_of c o) w p pages count class met).1 in
      let mine = cut_pulled c (kept_of c o) w p pages count class met p (omega arith) (omega arith) in
      let bare = pulled_uncovered c.generation c.words c.owners c.lives c.sets c.hands (kept_of c o) w (hand_of c w) at p lt p mine in
      let word : slice_index c.words p ≡ 0 = free_uncovered c.generation c.words c.owners c.lives (kept_of c o).lives_fit p lt bare in
      let none : begins p c.lives ≡ false = (kept_of c o).lives_fit.begin p lt ∙ ap not (eq-eqb (slice_index c.words p) 0 word) in
      let absent : life_in p c.lives ≡ no_life = absent-life p c.lives none in
      let new : CoreState = after_cut c w p pages count class in
      shows-cut region goal c e w n p pages count class now (sym (now.lives.begin p) ∙ none) low lt word (λ k. ap (λ (l : LifeState). has k l.allocated) absent)
      (λ q k is. ap (λ (xs : List ℕ). has k xs) (kept-append q _ c.lives refl))
      (λ v q has. has-turned c new w (hand_of c w) (cut_span p pages (hand_of c w)) (length-set c.words p c.generation) refl at v q (λ s had. (let z = times_append q (hand_of c w).held (p ∷ []) in omega arith)) has)
      (new-shown c new e.known n e.cycle p pages count class now.lives none same refl)
