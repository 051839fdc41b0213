-- A block that is pulled, and all moves: one law.
use Rattle.std.proofs.Common.{◌≡◌, ◌≢◌, ℕ, zero, suc, ◌+◌, ◌-◌, ◌*◌, ◌/◌, ◌<◌, ◌≤◌, ◌⊎◌, inl, inr, Bool, true, false, true≢false, cond, ◌&&◌, ◌||◌, not, eqb, ltb, eq-eqb, ne_eqb, List, [], ◌∷◌, ◌++◌, map, length, set, get_or, length-set, get_or-set_other, get_or-set_same, sym, refl, ap, ◌∙◌, subst, arith}
use Rattle.std.specs.Prelude.{Option, Some, None}
use Rattle.std.specs.Option.{is_some}
use Rattle.std.specs.List.{filter, find, range_with_len}
use Rattle.std.proofs.lemmas.Bool.{cases_eq, cases_lt, cases_Bool, ltb-true}
use Rattle.std.proofs.lemmas.List.{get_or_past, length-append}
use Rattle.std.proofs.lemmas.List.Elements.{filter-append}
use Rattle.page_bitmap.specs.Counts.{count_below}
use Rattle.std.proofs.Math.Nat.{min-eq_left}
use mathlib.Core.Option.{some-injective}
use Rattle.page_bitmap.specs.declared.line.Line.{Line}
use Rattle.page_bitmap.specs.declared.line.Line.TheVariants.{Pull as PullLine}
use Rattle.page_alloc.specs.Lists.{In, IsNumber}
use Rattle.page_alloc.specs.Lives.{Life, open_lives}
use Rattle.page_alloc.specs.Owners.{IsUnheld, cached, is_held, is_number, owner, within}
use Rattle.page_alloc.specs.Blocks.{IsLeastBlock}
use Rattle.sweep_laws.specs.declared.moves.Claimed.{Claimed}
use Rattle.sweep_laws.specs.declared.moves.Move.{Move}
use Rattle.sweep_laws.specs.declared.moves.Move.TheVariants.{Lock, Unlock, Take, Give, Acquire, Release, Cache, Allocate, Uncache, StaleUncache, Claim, Fill, PopSwept, PopUnswept, DropPopped, Pull, Cut, Drop, Next}
use Rattle.sweep_laws.specs.State.{LifeState, HandState, CoreState}
use Rattle.sweep_laws.specs.Counts.{one_if, times}
use Rattle.sweep_laws.specs.Named.{begins, is_covered, pullers}
use Rattle.sweep_laws.specs.Reading.{block_length, block_start, free_block, free_with, hand_of, is_free_page, least_free, life_in, no_hand, set_of}
use Rattle.sweep_laws.specs.NeedsOfRange.{refusal}
use Rattle.sweep_laws.specs.Needs.{acquire_needs, release_needs, cache_needs, uncache_needs, stale_uncache_needs, claim_needs, fill_needs, pop_swept_needs, pop_unswept_needs, drop_popped_needs, pull_needs}
use Rattle.sweep_laws.specs.ChangesOfHands.{hold, start_sweep, end_sweep, put_in_cache, take_from_cache, sweep_from_cache, claim_cell, fill_cell, pop_entry, drop_entry, pull_pages}
use Rattle.sweep_laws.specs.ChangesOfLives.{keep_marked, allocate_index}
use Rattle.sweep_laws.specs.ChangesOfSets.{head_base}
use Rattle.sweep_laws.specs.Changes.{after_fill_of, after_pull}
use Rattle.sweep_laws.specs.Owned.{Owned}
use Rattle.sweep_laws.specs.Start.{new_state}
use Rattle.run_laws.specs.ShowsCycle.{first_cycle}
use Rattle.sweep_laws.specs.Step.{needs_of, after}
use Rattle.sweep_laws.proofs.Forms.{kept_of}
use Rattle.sweep_laws.proofs.LivesChange.{is_in, life_page}
use Rattle.sweep_laws.proofs.Naming.{at_low}
use Rattle.sweep_laws.proofs.NeedsMet.{all_met, some_none, some_there}
use Rattle.sweep_laws.proofs.PulledPages.{found_in_range, free_page, page_free}
use Rattle.sweep_laws.proofs.Totals.{inside_at, other_one, part_le, total_none}
use Rattle.worker_log.specs.declared.Entry.{Entry}
use Rattle.worker_log.specs.declared.Entry.TheVariants.{Allocated, Pulled, Swept}
use Rattle.worker_log.specs.Logs.{Taking}
use Rattle.run_laws.specs.CycleSoFar.{CycleSoFar, past_after}
use Rattle.run_laws.specs.Lists.{begins_at}
use Rattle.run_laws.specs.Steps.{after_line, with_logs}
use Rattle.run_laws.specs.Blocks.{CutOut, OutBlock, cut_times, cuts_in, cuts_of, is_of_cache, out_of, pages_cut, pullings, settlings, told_lines}
use Rattle.run_laws.specs.ShowsBlocks.{BlocksGoOn, ShowsBlocks, after_pulled}
use Rattle.run_laws.proofs.BlockLogs.{SameBlocks, same_block, same_blocks, same_put, put_own, put_else}
use Rattle.run_laws.proofs.BlocksKept.{SameState, same_span, changed_span, changed_begins, owner_of_life, pulled_stay, state_shows, placed, within_of}
use Rattle.run_laws.proofs.BlockMoves.{take_blocks, give_blocks, cut_blocks, drop_blocks, next_blocks}

-- ---- how often the numbers that pass a test name a number

module _ (test : ℕ → Bool) (q : ℕ) where
  -- a number in front that is another one
  skipped : (x : ℕ) (xs : List ℕ) → x ≢ q → times q (cond (test x) (x ∷ xs) xs) ≡ times q xs
  skipped x xs ne = go (test x)
    where
      go : (b : Bool) → times q (cond b (x ∷ xs) xs) ≡ times q xs
      go true = let o = other_one x q ne in omega arith
      go false = refl

  passing_outside : (a n : ℕ) → (q < a) ⊎ (a + n ≤ q) → times q (filter test (range_with_len a n)) ≡ 0
  passing_outside a zero out = refl
  passing_outside a (suc n) out =
      let ne : a ≢ q = λ s. elim out [ inl x ↦ (let z : ⊥ = omega arith in z) | inr x ↦ (let z : ⊥ = omega arith in z) ] in
      let rest : (q < a + 1) ⊎ (a + 1 + n ≤ q) = elim out [ inl x ↦ inl (omega arith) | inr x ↦ inr (omega arith) ] in
      skipped a (filter test (range_with_len (a + 1) n)) ne ∙ passing_outside (a + 1) n rest

  passing_here : (a n : ℕ) → a ≤ q → q < a + n → test q ≡ true → times q (filter test (range_with_len a n)) ≡ 1
  passing_here a zero l u on = absurd (omega arith)
  passing_here a (suc n) l u on = elim (cases_eq a q) [
    | inl here ↦ (
        let on' : test a ≡ true = ap test here ∙ on in
        let rest = passing_outside (a + 1) n (inl (omega arith)) in
        let one : one_if (eqb a q) ≡ 1 = ap one_if (eq-eqb a q here) in
        rw on' (omega (arith, rest, one)))
    | inr there ↦ skipped a (filter test (range_with_len (a + 1) n)) there ∙ passing_here (a + 1) n (omega arith) (omega arith) on
  ]

  passing_not : (xs : List ℕ) → test q ≡ false → times q (filter test xs) ≡ 0
  passing_not [] off = refl
  passing_not (x ∷ xs) off = elim (cases_eq x q) [
    | inl here ↦ (let off' : test x ≡ false = ap test here ∙ off in rw off' (passing_not xs off))
    | inr there ↦ skipped x (filter test xs) there ∙ passing_not xs off
  ]

-- as many pass as are counted
range_end : (a n : ℕ) → range_with_len a (suc n) ≡ range_with_len a n ++ (a + n) ∷ []
range_end a zero = ap (λ (x : ℕ). x ∷ []) (let e : a ≡ a + 0 = omega arith in e)
range_end a (suc n) = ap (λ (xs : List ℕ). a ∷ xs) (range_end (a + 1) n ∙ ap (λ (x : ℕ). range_with_len (a + 1) n ++ x ∷ []) (let e : a + 1 + n ≡ a + suc n = omega arith in e))

filtered_count : (test : ℕ → Bool) (a n : ℕ) → length (filter test (range_with_len a n)) ≡ count_below n (λ i. test (a + i))
unfolding count_below
filtered_count test a zero = refl
filtered_count test a (suc n) =
    let s = ap (λ (xs : List ℕ). length (filter test xs)) (range_end a n) ∙ ap (λ (xs : List ℕ). length xs) (filter-append test (range_with_len a n) ((a + n) ∷ [])) ∙ length-append (filter test (range_with_len a n)) (filter test ((a + n) ∷ [])) in
    let r = filtered_count test a n in let g = go (test (a + n)) in omega arith
  where
    go : (b : Bool) → length (cond b ((a + n) ∷ []) []) ≡ Rattle.page_bitmap.specs.Counts.one_if b
    go true = refl
    go false = refl

count_same : (n : ℕ) (t u : ℕ → Bool) → ((i : ℕ) → i < n → t i ≡ u i) → count_below n t ≡ count_below n u
unfolding count_below
count_same zero t u same = refl
count_same (suc n) t u same = let a = ap Rattle.page_bitmap.specs.Counts.one_if (same n (omega arith)) in let r = count_same n t u (λ i l. same i (omega arith)) in omega arith

-- what a search finds is the first
found_first : (test : ℕ → Bool) (a n q x : ℕ) → find test (range_with_len a n) ≡ Some q → a ≤ x → x < q → test x ≡ false
found_first test a zero q x is l u = absurd (some_none q (sym is))
found_first test a (suc n) q x is l u = go (test a) refl is (found_first test (a + 1) n q x)
  where
    same : (y z : ℕ) → Some y ≡ Some z → y ≡ z
    same y z s = cc

    go : (b : Bool) → test a ≡ b → cond b (Some a) (find test (range_with_len (a + 1) n)) ≡ Some q → (find test (range_with_len (a + 1) n) ≡ Some q → a + 1 ≤ x → x < q → test x ≡ false) → test x ≡ false
    go true s f rest = let z = same a q f in absurd (omega arith)
    go false s f rest = elim (cases_eq x a) [ inl here ↦ ap test here ∙ s | inr there ↦ rest f (omega arith) u ]

-- a page that cuts cover is covered by one
cut_some : (q : ℕ) (cuts : List CutOut) → 0 < cut_times q cuts → (x : CutOut) × In x cuts × (within q x.page x.pages ≡ true)
cut_some q [] h = absurd (omega arith)
cut_some q (x ∷ cuts) h = elim (cases_Bool (within q x.page x.pages)) [
  | inl on ↦ (x, inl refl, on)
  | inr off ↦ (let o = ap one_if off in let r = cut_some q cuts (omega arith) in (r.0, inr r.1, r.2))
]

module _ (c : CoreState) (e : CycleSoFar) (now : ShowsBlocks c e) (o : Owned c) where
  -- a page without an owner is covered by no cut
  uncut : (q : ℕ) → q < length c.words → get_or c.owners q None ≡ None → (v : ℕ) → cut_times q (cuts_of (e.logs v)) ≡ 0
  uncut q low free v = elim (cases_lt 0 (cut_times q (cuts_of (e.logs v)))) [
    | inl some_cut ↦ (
        let x = cut_some q (cuts_of (e.logs v)) some_cut in
        let k = now.cuts v x.0 x.1 in
        let page = life_page x.0.page c.lives k.begin in
        let pages = k.pages in
        let run = within_of q x.0.page x.0.pages x.2 in
        let on : is_covered q (life_in x.0.page c.lives) ≡ true = is_in q (life_in x.0.page c.lives) (let y = run.0 in omega arith) (let y = run.1 in omega arith) in
        absurd (some_none (life_in x.0.page c.lives).page (sym (owner_of_life x.0.page q c.lives k.begin on ((kept_of c o).lives_fit.apart q)) ∙ sym ((kept_of c o).lives_fit.owner_is q low) ∙ free)))
    | inr none ↦ omega arith
  ]

  -- a hand's pulled list names no page that no pulled list names
  unlisted : (q : ℕ) → pullers q c.hands ≡ 0 → (v : ℕ) → times q (hand_of c v).pulled ≡ 0
  unlisted q none v = elim (cases_lt v (length c.hands)) [
    | inl low ↦ (let p = part_le (λ (h : HandState). times q h.pulled) c.hands v (hand_of c v) (at_low c.hands v no_hand low) in omega arith)
    | inr far ↦ ap (λ (h : HandState). times q h.pulled) (get_or_past c.hands v no_hand far)
  ]

  -- a page is free in the state exactly where neither a span nor a page cache has it by the journal
  pub free_unheld : (q : ℕ) → q < length c.words → is_free_page c q ≡ true → IsUnheld (past_after e) q
  free_unheld q low on = record { owner = sym (now.owned q low (uncut q low f.0)) ∙ f.0; cached = none_cached (cached (past_after e) q) refl }
    where
      f : (get_or c.owners q None ≡ None) × (pullers q c.hands ≡ 0)
      f = free_page c.owners c.hands q on

      none_cached : (x : Option ℕ) → cached (past_after e) q ≡ x → cached (past_after e) q ≡ None
      none_cached None is = is
      none_cached (Some v) is =
          let r = now.pulled v q in let a = unlisted q f.1 v in let b = uncut q low f.0 v in
          let y : one_if (is_number v (cached (past_after e) q)) ≡ 1 = ap (λ (z : Option ℕ). one_if (is_number v z)) is ∙ ap one_if (eq-eqb v v refl) in
          absurd (omega arith)

  pub unheld_free : (q : ℕ) → q < length c.words → IsUnheld (past_after e) q → is_free_page c q ≡ true
  unheld_free q low u = page_free c.owners c.hands q (now.owned q low (λ v. let s = share v in omega arith) ∙ u.owner)
      (total_none (λ (h : HandState). times q h.pulled) c.hands (λ n h at. let s = share n in
      let is : hand_of c n ≡ h = some-injective (hand_of c n) h (sym (at_low c.hands n no_hand (inside_at c.hands n h at)) ∙ at) in let z = ap (λ (y : HandState). times q y.pulled) is in omega arith))
    where
      share : (v : ℕ) → times q (hand_of c v).pulled + cut_times q (cuts_of (e.logs v)) ≡ 0
      share v = sym (now.pulled v q) ∙ ap (λ (z : Option ℕ). one_if (is_number v z)) u.cached

  pub pull_blocks : (w page pages : ℕ) → refusal (pull_needs c w) ≡ None → out_of (e.logs w) ≡ None → IsLeastBlock (length c.words) (past_after e) page pages → ShowsBlocks (after_pull c w) (after_pulled e w page pages)
  pull_blocks w page pages met no_block b = record {
    lines = λ v. elim (cases_eq v w) [
      | inl is ↦ (rw (eq-eqb w v (sym is)) (ap (λ (l : List Line). PullLine e.cycle w page pages ∷ l) (now.lines v ∙ ap (λ (u : ℕ). told_lines e.cycle v (e.logs u)) is))) ∙ sym (ap (told_lines e.cycle v) (log_own v is))
      | inr isnt ↦ (rw (ne_eqb w v (λ s. isnt (sym s))) (now.lines v)) ∙ sym (ap (told_lines e.cycle v) (log_else v isnt))
    ];
    named = λ v x h. elim (cases_eq v w) [
      | inl is ↦ own_named x (subst (λ (l : List Entry). In x (pullings l)) (log_own v is) h)
      | inr isnt ↦ inr (now.named v x (subst (λ (l : List Entry). In x (pullings l)) (log_else v isnt) h))
    ];
    settled = λ v n h. let s = now.settled v n (settles v n h) in (s.0, s.1, inr s.2);
    pulled = pulled;
    none = λ v z. elim (cases_eq v w) [
      | inl is ↦ absurd (some_none (record { number = length (past_after e); page = page; pages = pages; cuts = [] }) (sym (ap out_of (log_own v is)) ∙ z))
      | inr isnt ↦ else_hand v isnt ∙ now.none v (sym (ap out_of (log_else v isnt)) ∙ z)
    ];
    size = λ v g z. elim (cases_eq v w) [
      | inl is ↦ subst (λ (y : OutBlock). length (hand_of d v).pulled + pages_cut y.cuts ≡ y.pages) (same_block (record { number = length (past_after e); page = page; pages = pages; cuts = [] }) g (sym (ap out_of (log_own v is)) ∙ z))
          (let a = ap (λ (l : List ℕ). length l) (own_hand v is ∙ block_is) in let k = b.count in let f = filtered_count (is_free_page c) page 64 in let s = count_same 64 (λ i. is_free_page c (page + i)) (λ i. not (is_held (past_after e) (page + i))) as_held in omega arith)
      | inr isnt ↦ ap (λ (l : List ℕ). length l + pages_cut g.cuts) (else_hand v isnt) ∙ now.size v g (sym (ap out_of (log_else v isnt)) ∙ z)
    ];
    owned = λ q low z. now.owned q low (λ v. elim (cases_eq v w) [
      | inl is ↦ ap (λ (u : ℕ). cut_times q (cuts_of (e.logs u))) is ∙ ap (λ (x : Option OutBlock). cut_times q (cuts_in x)) no_block
      | inr isnt ↦ sym (ap (λ (l : List Entry). cut_times q (cuts_of l)) (log_else v isnt)) ∙ z v
    ]);
    cuts = λ v x h. let k = now.cuts v x (elsewhere v x h) in record { begin = k.begin; pages = k.pages; class = k.class; count = k.count };
    lives = λ life h. let k = now.lives life h in (k.0, record { pages = k.1.pages; class = k.1.class; count = k.1.count });
    each = λ q z. elim (now.each q z) [
      | inl a ↦ inl a
      | inr k ↦ elim (cases_eq k.0 w) [
        | inl is ↦ absurd (subst (λ (x : Option OutBlock). In k.1 (cuts_in x)) (ap (λ (u : ℕ). out_of (e.logs u)) is ∙ no_block) k.2)
        | inr isnt ↦ inr (k.0, k.1, subst (λ (l : List Entry). In k.1 (cuts_of l)) (sym (log_else k.0 isnt)) k.2, k.3)
      ]
    ];
  }
    where
      d : CoreState
      d = after_pull c w

      next : CycleSoFar
      next = after_pulled e w page pages

      low_hand : w < length c.hands
      low_hand = ltb-true w (length c.hands) (all_met (pull_needs c w) met).0

      log_own : (v : ℕ) → v ≡ w → next.logs v ≡ Pulled (length (past_after e)) (PullLine e.cycle w page pages) ∷ e.logs w
      log_own v is = put_own e.logs w (Pulled (length (past_after e)) (PullLine e.cycle w page pages) ∷ e.logs w) v is

      log_else : (v : ℕ) → v ≢ w → next.logs v ≡ e.logs v
      log_else v isnt = put_else e.logs w (Pulled (length (past_after e)) (PullLine e.cycle w page pages) ∷ e.logs w) v isnt

      own_named : (x : Taking) → (record { number = length (past_after e); line = PullLine e.cycle w page pages } ≡ x) ⊎ In x (pullings (e.logs w)) → IsNumber x.number x.line (past_after next)
      own_named x (inl is) = subst (λ (y : Taking). IsNumber y.number y.line (past_after next)) is (inl (refl, refl))
      own_named x (inr old) = inr (now.named w x old)

      settles : (v n : ℕ) → In n (settlings (next.logs v)) → In n (settlings (e.logs v))
      settles v n h = elim (cases_eq v w) [
        | inl is ↦ subst (λ (u : ℕ). In n (settlings (e.logs u))) (sym is) (subst (λ (l : List Entry). In n (settlings l)) (log_own v is) h)
        | inr isnt ↦ subst (λ (l : List Entry). In n (settlings l)) (log_else v isnt) h
      ]

      elsewhere : (v : ℕ) (x : CutOut) → In x (cuts_of (next.logs v)) → In x (cuts_of (e.logs v))
      elsewhere v x h = elim (cases_eq v w) [
        | inl is ↦ absurd (subst (λ (l : List Entry). In x (cuts_of l)) (log_own v is) h)
        | inr isnt ↦ subst (λ (l : List Entry). In x (cuts_of l)) (log_else v isnt) h
      ]

      own_hand : (v : ℕ) → v ≡ w → (hand_of d v).pulled ≡ free_block c
      own_hand v is = ap (λ (u : ℕ). (hand_of d u).pulled) is ∙ ap (λ (h : HandState). h.pulled) (get_or-set_same c.hands w (pull_pages (free_block c) (hand_of c w)) no_hand low_hand)

      else_hand : (v : ℕ) → v ≢ w → (hand_of d v).pulled ≡ (hand_of c v).pulled
      else_hand v isnt = ap (λ (h : HandState). h.pulled) (get_or-set_other c.hands w v (pull_pages (free_block c) (hand_of c w)) no_hand isnt)

      -- the block of the least free page is that of the journal
      found : (l : ℕ) × (least_free c ≡ Some l)
      found = some_there (least_free c) (all_met (pull_needs c w) met).1.1.1.0

      least_is : found.0 ≡ b.least
      least_is =
          let s = found_in_range (is_free_page c) 0 (length c.words) found.0 found.1 in
          let inside = b.free.here.inside in
          elim (cases_lt found.0 b.least) [
            | inl before ↦ absurd (b.free.least found.0 before (record {
              inside = let x = s.1 in omega arith;
              free = λ p l u. subst (λ (y : ℕ). IsUnheld (past_after e) y) (let z : found.0 ≡ p = omega arith in z) (free_unheld found.0 (let x = s.1 in omega arith) s.2);
            }))
            | inr from ↦ elim (cases_eq found.0 b.least) [
              | inl same ↦ same
              | inr other ↦ absurd (true≢false (sym (unheld_free b.least (omega arith) (b.free.here.free b.least (omega arith) (omega arith))) ∙ found_first (is_free_page c) 0 (length c.words) found.0 b.least found.1 (omega arith) (omega arith)))
            ]
          ]

      block_is : free_block c ≡ filter (is_free_page c) (range_with_len page 64)
      block_is =
          let inside = b.inside in let first = b.first in let is = least_is in
          let start : block_start found.0 ≡ page = omega arith in
          let long : block_length (length c.words) found.0 ≡ 64 = min-eq_left (let z : 64 ≤ length c.words - found.0 / 64 * 64 = omega arith in z) in
          ap (free_with c) found.1 ∙ (λ i. filter (is_free_page c) (range_with_len (start i) (long i)))

      held_not : (q : ℕ) → is_held (past_after e) q ≡ false → IsUnheld (past_after e) q
      held_not q off = record { owner = none_of (owner (past_after e) q) (cached (past_after e) q) off; cached = none_too (owner (past_after e) q) (cached (past_after e) q) off }
        where
          none_of : (x y : Option ℕ) → is_some x || is_some y ≡ false → x ≡ None
          none_of None y f = refl
          none_of (Some n) y f = absurd (true≢false f)

          none_too : (x y : Option ℕ) → is_some x || is_some y ≡ false → y ≡ None
          none_too None None f = refl
          none_too None (Some n) f = absurd (true≢false f)
          none_too (Some n) y f = absurd (true≢false f)

      free_held : (q : ℕ) → is_held (past_after e) q ≡ true → IsUnheld (past_after e) q → ⊥
      free_held q on u = true≢false (sym on ∙ (λ i. is_some (u.owner i) || is_some (u.cached i)))

      -- a page of the block is free in the state exactly where it is by the journal
      as_held : (i : ℕ) → i < 64 → is_free_page c (page + i) ≡ not (is_held (past_after e) (page + i))
      as_held i low = elim (cases_Bool (is_held (past_after e) (page + i))) [
        | inl held ↦ by_bool held (is_free_page c (page + i)) refl ∙ sym (ap not held)
        | inr unheld ↦ unheld_free (page + i) (let y = b.inside in omega arith) (held_not (page + i) unheld) ∙ sym (ap not unheld)
      ]
        where
          by_bool : is_held (past_after e) (page + i) ≡ true → (x : Bool) → is_free_page c (page + i) ≡ x → is_free_page c (page + i) ≡ false
          by_bool held true on = absurd (free_held (page + i) held (free_unheld (page + i) (let y = b.inside in omega arith) on))
          by_bool held false off = off

      -- the worker had nothing in its page cache
      was_none : (q : ℕ) → one_if (is_number w (cached (past_after e) q)) ≡ 0
      was_none q = now.pulled w q ∙ (λ i. times q (now.none w no_block i) + cut_times q (cuts_in (no_block i)))

      pulled : (v q : ℕ) → one_if (is_number v (cached (past_after next) q)) ≡ times q (hand_of d v).pulled + cut_times q (cuts_of (next.logs v))
      pulled v q = elim (cases_eq v w) [
        | inl is ↦ (
            let a : times q (hand_of d v).pulled ≡ times q (filter (is_free_page c) (range_with_len page 64)) = ap (times q) (own_hand v is ∙ block_is) in
            let k = ap (λ (l : List Entry). cut_times q (cuts_of l)) (log_own v is) in
            let y : one_if (is_number v (cached (past_after next) q)) ≡ times q (filter (is_free_page c) (range_with_len page 64)) = ap (λ (u : ℕ). one_if (is_number u (cached (past_after next) q))) is ∙ own_page q in omega arith)
        | inr isnt ↦ (
            let a = ap (times q) (else_hand v isnt) in let k = ap (λ (l : List Entry). cut_times q (cuts_of l)) (log_else v isnt) in let r = now.pulled v q in
            let y : one_if (is_number v (cached (past_after next) q)) ≡ one_if (is_number v (cached (past_after e) q)) = else_page v isnt q (within q page 64) (is_held (past_after e) q) refl in omega arith)
      ]
        where
          own_page : (q : ℕ) → one_if (is_number w (cached (past_after next) q)) ≡ times q (filter (is_free_page c) (range_with_len page 64))
          own_page q = elim (placed q page 64) [
            | inl i ↦ elim (cases_Bool (is_held (past_after e) q)) [
              | inl held ↦ (rw (i.2, held) (was_none q)) ∙ sym (passing_not (is_free_page c) q (range_with_len page 64) (by_bool i.1 held (is_free_page c q) refl))
              | inr unheld ↦ (rw (i.2, unheld) (ap one_if (eq-eqb w w refl))) ∙ sym (passing_here (is_free_page c) q page 64 i.0 i.1 (unheld_free q (let x = b.inside in let y = i.1 in omega arith) (held_not q unheld)))
            ]
            | inr out ↦ (rw out.1 (was_none q)) ∙ sym (passing_outside (is_free_page c) q page 64 out.0)
          ]
            where
              by_bool : q < page + 64 → is_held (past_after e) q ≡ true → (x : Bool) → is_free_page c q ≡ x → is_free_page c q ≡ false
              by_bool low held true on = absurd (free_held q held (free_unheld q (let y = b.inside in omega arith) on))
              by_bool low held false off = off

          else_page : (v : ℕ) → v ≢ w → (q : ℕ) (x y : Bool) → is_held (past_after e) q ≡ y → one_if (is_number v (cond (x && not y) (Some w) (cached (past_after e) q))) ≡ one_if (is_number v (cached (past_after e) q))
          else_page v isnt q true false off = ap one_if (ne_eqb w v (λ s. isnt (sym s))) ∙ sym (ap (λ (z : Option ℕ). one_if (is_number v z)) (held_not q off).cached)
          else_page v isnt q true true on = refl
          else_page v isnt q false y is = refl

  -- ---- the moves of which the journal and the page caches know nothing

  -- words, sets, and lists of hands but the pulled ones
  quiet_state : (d : CoreState) (w : ℕ) (h : HandState) → length d.words ≡ length c.words → d.hands ≡ set c.hands w h → w < length c.hands → h.pulled ≡ (hand_of c w).pulled → d.owners ≡ c.owners → d.lives ≡ c.lives → SameState c e now d
  quiet_state d w h size hands low same owners lives = record {
    size = size;
    hands = λ v. ap (λ (hs : List HandState). (get_or hs v no_hand).pulled) hands ∙ pulled_stay c.hands w h low same v;
    owners = owners;
    begin = λ p. ap (begins p) lives;
    span = λ p. subst (λ (l : LifeState). Rattle.run_laws.proofs.BlocksKept.SameSpan l (life_in p c.lives)) (sym (ap (life_in p) lives)) (same_span (life_in p c.lives));
  }

  stays : (d : CoreState) → SameState c e now d → ShowsBlocks d e
  stays d s = state_shows c e now d e.bits e.logs s (λ w. same_blocks (e.logs w))

  low_of : (w : ℕ) → ltb w (length c.hands) ≡ true → w < length c.hands
  low_of w is = ltb-true w (length c.hands) is

  filled : (w : ℕ) (x : Option Claimed) → (hand_of c w).claimed ≡ x → w < length c.hands → ShowsBlocks (after_fill_of x c w) e
  filled w None is low = now
  filled w (Some claim) is low = stays (after_fill_of (Some claim) c w) (quiet_state _ w (fill_cell claim.page (hand_of c w)) refl refl low refl refl refl)

  pub move_blocks : (move : Move) (next : CycleSoFar) → refusal (needs_of c move) ≡ None → BlocksGoOn c e move next → ShowsBlocks (after c move) next
  move_blocks (Lock w) next met on = subst (ShowsBlocks (after c (Lock w))) (sym on) (stays _ (record { size = refl; hands = λ v. refl; owners = refl; begin = λ p. refl; span = λ p. same_span (life_in p c.lives) }))
  move_blocks (Unlock w) next met on = subst (ShowsBlocks (after c (Unlock w))) (sym on) (stays _ (record { size = refl; hands = λ v. refl; owners = refl; begin = λ p. refl; span = λ p. same_span (life_in p c.lives) }))
  move_blocks (Take w p pages count class) next met on = subst (ShowsBlocks (after c (Take w p pages count class))) (sym on.1) (take_blocks c e now o w p pages count class met on.0)
  move_blocks (Give w p) next met on = subst (ShowsBlocks (after c (Give w p))) (sym on.1) (give_blocks c e now o w p met on.0)
  move_blocks (Acquire w p) next met on = subst (ShowsBlocks (after c (Acquire w p))) (sym on) (stays _ (quiet_state _ w (start_sweep p (hand_of c w)) (length-set c.words p (c.generation - 1)) refl (low_of w (all_met (acquire_needs c w p) met).0) refl refl refl))
  move_blocks (Release w p) next met on = subst (ShowsBlocks (after c (Release w p))) (sym on.2) (state_shows c e now _ _ _ (record {
    size = length-set c.words p c.generation;
    hands = pulled_stay c.hands w (end_sweep p (hand_of c w)) (low_of w (all_met (release_needs c w p) met).0) refl;
    owners = refl;
    begin = λ q. changed_begins p keep_marked (λ l. refl) q c.lives;
    span = λ q. changed_span p keep_marked (λ l. refl) (λ l. record { pages = refl; class = refl; count = refl }) q c.lives;
  }) (same_put e.logs w (Swept on.1) (record { out = refl; lines = λ cycle u. refl; pullings = refl; settlings = refl; cuts = refl })))
  move_blocks (Cache w p) next met on = subst (ShowsBlocks (after c (Cache w p))) (sym on) (stays _ (quiet_state _ w (put_in_cache p (hand_of c w)) (length-set c.words p (c.generation + 3)) refl (low_of w (all_met (cache_needs c w p) met).0) refl refl refl))
  move_blocks (Allocate w p i) next met on = subst (ShowsBlocks (after c (Allocate w p i))) (sym on.1) (state_shows c e now _ _ _ (record {
    size = refl;
    hands = λ v. refl;
    owners = refl;
    begin = λ q. changed_begins p (allocate_index i) (λ l. refl) q c.lives;
    span = λ q. changed_span p (allocate_index i) (λ l. refl) (λ l. record { pages = refl; class = refl; count = refl }) q c.lives;
  }) (same_put e.logs w (Allocated on.0) (record { out = refl; lines = λ cycle u. refl; pullings = refl; settlings = refl; cuts = refl })))
  move_blocks (Uncache w p) next met on = subst (ShowsBlocks (after c (Uncache w p))) (sym on) (stays _ (quiet_state _ w (take_from_cache p (hand_of c w)) (length-set c.words p c.generation) refl (low_of w (all_met (uncache_needs c w p) met).0) refl refl refl))
  move_blocks (StaleUncache w p) next met on = subst (ShowsBlocks (after c (StaleUncache w p))) (sym on) (stays _ (quiet_state _ w (sweep_from_cache p (hand_of c w)) (length-set c.words p (c.generation - 1)) refl (low_of w (all_met (stale_uncache_needs c w p) met).0) refl refl refl))
  move_blocks (Claim w s p) next met on = subst (ShowsBlocks (after c (Claim w s p))) (sym on) (stays _ (quiet_state _ w (claim_cell s (set_of c s).tail p (hand_of c w)) refl refl (low_of w (all_met (claim_needs c w s p) met).0) refl refl refl))
  move_blocks (Fill w) next met on = subst (ShowsBlocks (after c (Fill w))) (sym on) (filled w (hand_of c w).claimed refl (low_of w (all_met (fill_needs c w) met).0))
  move_blocks (PopSwept w s) next met on = subst (ShowsBlocks (after c (PopSwept w s))) (sym on) (stays _ (quiet_state _ w (hold (head_base c s) (hand_of c w)) refl refl (low_of w (all_met (pop_swept_needs c w s) met).0) refl refl refl))
  move_blocks (PopUnswept w s) next met on = subst (ShowsBlocks (after c (PopUnswept w s))) (sym on) (stays _ (quiet_state _ w (pop_entry (head_base c s) (hand_of c w)) refl refl (low_of w (all_met (pop_unswept_needs c w s) met).0) refl refl refl))
  move_blocks (DropPopped w p) next met on = subst (ShowsBlocks (after c (DropPopped w p))) (sym on) (stays _ (quiet_state _ w (drop_entry p (hand_of c w)) refl refl (low_of w (all_met (drop_popped_needs c w p) met).0) refl refl refl))
  move_blocks (Pull w) next met on = subst (ShowsBlocks (after c (Pull w))) (sym on.4) (pull_blocks w on.0 on.1 met on.2 on.3)
  move_blocks (Cut w p pages count class) next met on = subst (ShowsBlocks (after c (Cut w p pages count class))) (sym on.3) (cut_blocks c e now o w on.0.number p pages count class met on.2)
  move_blocks (Drop w) next met on = subst (ShowsBlocks (after c (Drop w))) (sym on.2) (drop_blocks c e now o w on.0 met on.1)
  move_blocks (Next marks) next met on = subst (ShowsBlocks (after c (Next marks))) (sym on.1) (next_blocks c e now o marks on.0)

-- a new state has nothing pulled, and nothing is written
pub start_blocks : (region workers : ℕ) → ShowsBlocks (new_state region workers) first_cycle
start_blocks region workers = record {
  lines = λ w. refl;
  named = λ w x h. absurd h;
  settled = λ w n h. absurd h;
  pulled = λ w p. let z = ap (times p) (nothing w) in omega arith;
  none = λ w z. nothing w;
  size = λ w b z. absurd (some_none b (sym z));
  owned = λ p low z. no_owner (range_with_len 0 region) p;
  cuts = λ w x h. absurd h;
  lives = λ life h. absurd h;
  each = λ p z. absurd (true≢false (sym z));
}
  where
    no_owner : (xs : List ℕ) (p : ℕ) → get_or (map (λ _. let z : Option ℕ = None in z) xs) p None ≡ None
    no_owner [] p = refl
    no_owner (x ∷ xs) zero = refl
    no_owner (x ∷ xs) (suc p) = no_owner xs p

    no_pulled : (xs : List ℕ) (w : ℕ) → (get_or (map (λ _. no_hand) xs) w no_hand).pulled ≡ []
    no_pulled [] w = refl
    no_pulled (x ∷ xs) zero = refl
    no_pulled (x ∷ xs) (suc w) = no_pulled xs w

    nothing : (w : ℕ) → (hand_of (new_state region workers) w).pulled ≡ []
    nothing w = no_pulled (range_with_len 0 workers) w

-- ---- entries and lines without a move

module _ (c : CoreState) (e : CycleSoFar) (now : ShowsBlocks c e) where
  -- logs that tell the same of blocks
  pub logs_blocks : (logs : ℕ → List Entry) → ((w : ℕ) → SameBlocks (logs w) (e.logs w)) → ShowsBlocks c (with_logs e logs)
  logs_blocks logs same = state_shows c e now c e.bits logs (record { size = refl; hands = λ v. refl; owners = refl; begin = λ p. refl; span = λ p. same_span (life_in p c.lives) }) same

  -- a line at which neither spans nor page caches change
  module _ (line : Line) (lines : (w : ℕ) → is_of_cache w line ≡ false) (cached_same : (p : ℕ) → cached (line ∷ past_after e) p ≡ cached (past_after e) p)
      (owner_same : (p : ℕ) → owner (line ∷ past_after e) p ≡ owner (past_after e) p) (lives_same : open_lives (line ∷ past_after e) ≡ open_lives (past_after e)) where
    pub line_blocks : ShowsBlocks c (after_line e line)
    line_blocks = record {
      lines = λ w. rw (lines w) (now.lines w);
      named = λ w x h. inr (now.named w x h);
      settled = λ w n h. let s = now.settled w n h in (s.0, s.1, inr s.2);
      pulled = λ w p. ap (λ (x : Option ℕ). one_if (is_number w x)) (cached_same p) ∙ now.pulled w p;
      none = now.none;
      size = now.size;
      owned = λ p low z. now.owned p low z ∙ sym (owner_same p);
      cuts = λ w x h. let k = now.cuts w x h in record { begin = k.begin; pages = k.pages; class = k.class; count = k.count };
      lives = λ life h. now.lives life (subst (λ (l : List Life). In life l) lives_same h);
      each = λ p z. elim (now.each p z) [ inl a ↦ inl (ap (begins_at p) lives_same ∙ a) | inr b ↦ inr b ];
    }
