-- The steps that change a page's word keep the rule.
use Rattle.std.proofs.Common.{◌≡◌, ◌≢◌, ℕ, ◌+◌, ◌-◌, ◌<◌, ◌≤◌, ◌⊎◌, inl, inr, ⊎_elim, Bool, ◌&&◌, ◌||◌, not, eqb, eq-eqb, ne_eqb, true, false, List, [], ◌∷◌, set, get_or, length, refl, ap, sym, subst, ◌∙◌, arith}
use Rattle.std.specs.Prelude.{None, Some, Option}
use mathlib.Core.Logic.{dite}
use native.Mathlib.Decide.{ℕ_discrete}
use Rattle.std.proofs.lemmas.List.{get_or-set_same, get_or-set_other}
use Rattle.std.proofs.Math.ListN.{length-set}
use Rattle.page_alloc.specs.Heap.{PageHeap}
use Rattle.span_state.specs.declared.body.Body.{Body}
use Rattle.sweep_laws.specs.ChangesOfHands.{start_sweep, put_in_cache, take_from_cache, sweep_from_cache}
use Rattle.sweep_laws.specs.Changes.{after_acquire, after_cache, after_uncache, after_stale_uncache}
use Rattle.sweep_laws.specs.Counts.{times}
use Rattle.sweep_laws.specs.declared.moves.Claimed.{Claimed}
use Rattle.sweep_laws.specs.Lists.{erase, has}
use Rattle.sweep_laws.specs.Named.{only}
use Rattle.sweep_laws.specs.Reading.{hand_of, life_in, no_set}
use Rattle.sweep_laws.specs.Owned.{Owned}
use Rattle.sweep_laws.specs.Standing.{tally, Kept}
use Rattle.sweep_laws.specs.State.{CoreState, HandState, LifeState}
use Rattle.sweep_laws.specs.Tidy.{IsTidy, HasSpace}
use Rattle.sweep_laws.proofs.Forms.{kept_of}
use Rattle.sweep_laws.proofs.Naming.{has_times, times_erase_else}
use Rattle.sweep_laws.proofs.Standings.{held_list, unswept_word}
use Rattle.sweep_laws.proofs.Totals.{part_le, times_end, times_end_else}
use Rattle.swept_set_laws.specs.Entered.{Entered, IsSettled}
use Rattle.swept_set_laws.proofs.EnteredKept.{turned_enters}
use Rattle.swept_set_laws.proofs.Stays.{Stays, word_stays}
use Rattle.worker_log.specs.declared.Entry.{Entry}
use Rattle.run_laws.specs.Blocks.{out_of}
use Rattle.worker_log.specs.Entries.{many, is_pop, is_pop_of, is_seen_empty}
use Rattle.span_laws.specs.declared.said.Said.TheVariants.{Caches, Uncaches, UncachesStale}
use Rattle.span_laws.specs.declared.said.SaidOf.TheVariants.{Acquires}
use Rattle.span_laws.specs.declared.view.Cell.{Cell}
use Rattle.span_laws.specs.declared.view.Part.{Part}
use Rattle.span_laws.specs.declared.view.Span.{Span}
use Rattle.span_laws.specs.declared.view.View.{View}
use Rattle.span_laws.specs.Bodies.{Fits, IsLent, IsWaiting, is_claimed, lends}
use Rattle.span_laws.specs.Logs.{is_look, is_placing_at}
use Rattle.span_laws.specs.Rule.{Rule, logs_of}
use Rattle.span_laws.specs.Tells.{IsPlaced, Tells}
use Rattle.span_laws.specs.Views.{acts, hand_state, has_cell, parts_of, span_at, span_of}
use Rattle.span_laws.specs.OwnSteps.{told, told_of, without}
use Rattle.span_laws.proofs.Parts.{has3, has_none, own_once, has_end_here, has_end_else, has_erase_else}
use Rattle.span_laws.proofs.RuleKept.{RuleOf, own_at, own_cache, own_hand, part_at, same_pops, turned}
use Rattle.span_laws.proofs.TellsKept.{Leads, own_tells}

pub span_here : (b : Span) (spans : List Span) → span_at b.page (b ∷ spans) ≡ Some b
span_here b spans = rw (eq-eqb b.page b.page refl) refl

pub span_else : (b : Span) (spans : List Span) (q : ℕ) → q ≢ b.page → span_at q (b ∷ spans) ≡ span_at q spans
span_else b spans q d = rw (ne_eqb b.page q (λ e. d (sym e))) refl

without_here : (p : ℕ) (xs : List ℕ) → has p (without p xs) ≡ false
without_here p [] = refl
without_here p (x ∷ xs) = dite (ℕ_discrete x p) (λ e. rw (eq-eqb x p e) (without_here p xs)) (λ d. rw (ne_eqb x p d) (rw (ne_eqb x p d) (without_here p xs)))

without_else : (q p : ℕ) (xs : List ℕ) → q ≢ p → has q (without p xs) ≡ has q xs
without_else q p [] d = refl
without_else q p (x ∷ xs) d = dite (ℕ_discrete x p)
    (λ e. rw (eq-eqb x p e, ne_eqb x q (λ z. d (sym z ∙ e))) (without_else q p xs d))
    (λ e. rw (ne_eqb x p e) (ap (λ (b : Bool). eqb x q || b) (without_else q p xs d)))

and_false : (a : Bool) → (a && false) ≡ false
and_false true = refl
and_false false = refl

module _ (c : CoreState) (heap : PageHeap) (homes : List (Option Body)) (n : ℕ) (v : View) (k : Rule c heap homes n v) where
  -- the hand of worker n changes as the own part does
  pub as_own : (h : Part) (f : HandState → HandState) → hand_state h ≡ f (hand_state v.own) → set c.hands n (f (hand_of c n)) ≡ set c.hands n (hand_state h)
  as_own h f e = ap (λ (s : HandState). set c.hands n (f s)) (own_hand c heap homes n v k) ∙ ap (λ (s : HandState). set c.hands n s) (sym e)

  pub kept : Kept c.generation c.words c.owners c.lives c.sets c.hands
  kept = kept_of c k.owned

  pub four : 4 ≤ c.generation
  four = kept.generation.low

  -- what swept sets name, after a step that puts only settled pages with an object into the own hand that were there
  pub enters : (ws' : List ℕ) (ls' : List LifeState) (h : Part) → Stays c.generation (length c.words) c.words c.lives ws' ls' → h.claimed ≡ v.own.claimed
      → ((q : ℕ) → q < length c.words → IsSettled c.generation (get_or c.words q 0) → 0 < length (life_in q c.lives).allocated → 0 < times q h.held + times q h.cached → 0 < times q v.own.held + times q v.own.cached)
      → ((j q : ℕ) → many (is_pop_of j q) h.log ≡ many (is_pop_of j q) v.own.log)
      → Entered c.generation (length c.words) ws' ls' c.sets (set c.hands n (hand_state h)) (logs_of n (acts v h)) k.names
  enters ws' ls' h stays claims has pops = turned_enters c.generation (length c.words) c.words c.lives c.sets c.hands (logs_of n v) k.names k.entered ws' ls' stays n (hand_state v.own) (hand_state h) (logs_of n (acts v h))
      (own_at c heap homes n v k) kept.sets_fit.order claims has (same_pops c heap homes n v k h pops)

  pub unsettled : (w : ℕ) → (w + 2 ≡ c.generation) ⊎ (w + 1 ≡ c.generation) ⊎ (w ≡ c.generation + 1) → IsSettled c.generation w → ⊥
  unsettled w a b = let l = four in ⊎_elim (λ (x : w + 2 ≡ c.generation). ⊎_elim (λ (y : w ≡ c.generation). let z : ⊥ = omega arith in z) (λ (y : w ≡ c.generation + 3). let z : ⊥ = omega arith in z) b)
      (λ (x : (w + 1 ≡ c.generation) ⊎ (w ≡ c.generation + 1)). ⊎_elim (λ (u : w + 1 ≡ c.generation). ⊎_elim (λ (y : w ≡ c.generation). let z : ⊥ = omega arith in z) (λ (y : w ≡ c.generation + 3). let z : ⊥ = omega arith in z) b)
      (λ (u : w ≡ c.generation + 1). ⊎_elim (λ (y : w ≡ c.generation). let z : ⊥ = omega arith in z) (λ (y : w ≡ c.generation + 3). let z : ⊥ = omega arith in z) b) x) a

  -- a word of a swept span does not wait
  pub not_waiting : (w : ℕ) → (w ≡ c.generation) ⊎ (w ≡ c.generation + 3) → IsWaiting c.generation w → ⊥
  not_waiting w a b = unsettled w b a

  pub own_tells_of : Tells c.generation c.words c.lives c.sets v.own
  own_tells_of = k.tells n v.own (part_at c heap homes n v k)

  pub once : (p : ℕ) → p < length c.words → has3 p v.own ≤ 1
  once p low = own_once c k.owned (parts_of n v) k.hands p low n v.own (part_at c heap homes n v k)

  module _ (p x : ℕ) (low : p < length c.words) where
    pub word_else : (q : ℕ) → q ≢ p → get_or (set c.words p x) q 0 ≡ get_or c.words q 0
    word_else q d = get_or-set_other c.words p q x 0 d

    pub word_here : get_or (set c.words p x) p 0 ≡ x
    word_here = get_or-set_same c.words p x 0 low

    -- a word changes; an object placed in the page stays so
    pub word_leads : (x + 2 ≡ c.generation → ⊥) → ((i : ℕ) → IsPlaced c.generation c.words c.lives p i → IsSettled c.generation x) → Leads c.generation c.words c.lives c.sets (set c.words p x) c.lives c.sets p
    word_leads off still = record {
      words = word_else;
      waits = λ q w. dite (ℕ_discrete q p)
          (λ e. absurd (off (ap (λ (z : ℕ). z + 2) (sym word_here ∙ ap (λ (z : ℕ). get_or (set c.words p x) z 0) (sym e)) ∙ w)))
          (λ d. (ap (λ (z : ℕ). z + 2) (sym (word_else q d)) ∙ w, refl));
      placed = λ q i m. dite (ℕ_discrete q p)
          (λ e. let m' : IsPlaced c.generation c.words c.lives p i = subst (λ (z : ℕ). IsPlaced c.generation c.words c.lives z i) e m in
          let r : IsPlaced c.generation (set c.words p x) c.lives p i = (subst (λ (z : ℕ). p < z) (sym (length-set c.words p x)) low, subst (IsSettled c.generation) (sym word_here) (still i m'), m'.2) in
          subst (λ (z : ℕ). IsPlaced c.generation (set c.words p x) c.lives z i) (sym e) r)
          (λ d. (subst (λ (z : ℕ). q < z) (sym (length-set c.words p x)) m.0, subst (IsSettled c.generation) (sym (word_else q d)) m.1, m.2));
      empty = λ s u e. e;
      cells = λ s i q e. e;
      grow = λ s. (omega arith, omega arith);
      filled = λ s u f. f;
    }

    -- the fresh pages, where neither list changes and the page is not cached
    pub fresh_stays : (h : Part) → h.fresh ≡ v.own.fresh → h.cached ≡ v.own.cached → has p v.own.cached ≡ false → (q : ℕ) → has q h.fresh ≡ (has q h.cached && eqb (get_or (set c.words p x) q 0) (c.generation + 3))
    fresh_stays h e f none q = rw (e, f) (dite (ℕ_discrete q p)
        (λ s. let t = own_tells_of.fresh q in let z : has q v.own.cached ≡ false = subst (λ (y : ℕ). has y v.own.cached ≡ false) (sym s) none in t ∙ ap (λ (b : Bool). b && eqb (get_or c.words q 0) (c.generation + 3)) z ∙ sym (ap (λ (b : Bool). b && eqb (get_or (set c.words p x) q 0) (c.generation + 3)) z))
        (λ d. own_tells_of.fresh q ∙ ap (λ (w : ℕ). has q v.own.cached && eqb w (c.generation + 3)) (sym (word_else q d))))

  module _ (b : Body) (low : b.page < length c.words) where
    -- a worker begins to sweep a span that was at home
    pub acquire_keeps : get_or c.words b.page 0 + 2 ≡ c.generation → Fits k.known c.lives b.page (span_of b) → (c' : CoreState) → c' ≡ after_acquire c n b.page → Owned c' → IsTidy c' → HasSpace c'
        → RuleOf c' heap (set homes b.page None) n (acts v (told_of Acquires (span_of b) v.own)) k.known
    acquire_keeps w fits c' e o t r =
        let p = b.page in let h = told_of Acquires (span_of b) v.own in
        let none = unswept_word c.generation (tally c.generation c.words c.lives c.sets c.hands p) four (kept.page p low).standing w in
        let z = part_le (λ (y : HandState). times p y.cached) c.hands n (hand_state v.own) (own_at c heap homes n v k) in let z₂ = none.0 in
        let here = times_end p v.own.sweeping in
        subst (λ (s : CoreState). RuleOf s heap (set homes p None) n (acts v h) k.known) (sym e)
        (turned c heap homes n v k (after_acquire c n p) heap (set homes p None) h (subst Owned e o) (subst IsTidy e t) (subst HasSpace e r) refl (length-set c.words p _) refl (as_own h (start_sweep p) refl) refl refl refl k.legal k.allowed k.cycle k.known (own_cache c heap homes n v k h refl refl refl)
        p low (inr (omega arith)) k.names
        (enters _ _ h (word_stays c.generation c.words c.lives p _ low (λ y. absurd (unsettled _ (inl w) y))) refl (λ q l x y s. s) (λ j q. refl))
        (word_leads p (c.generation - 1) low (λ y. omega arith) (λ i m. absurd (unsettled _ (inl w) m.1))) (λ q d. refl) (λ q d. refl) (length-set homes p None) (λ s d x. x) (λ q d. get_or-set_other homes p q None None d)
        (λ q d. let s = times_end_else q p v.own.sweeping d in omega arith) (λ q d. span_else (span_of b) v.own.spans q d)
        (λ l. (span_of b, span_here (span_of b) v.own.spans, fits)) (λ g. inl (omega arith)) (λ _. get_or-set_same homes p None None (let z = k.bodies.many in omega arith)) (λ x. k.marks.kept p low (inl w)) (λ i x y. x)
        (own_tells c.generation c.words c.lives c.sets (set c.words p (c.generation - 1)) c.lives c.sets p (word_leads p (c.generation - 1) low (λ y. omega arith) (λ i m. absurd (unsettled _ (inl w) m.1))) v.own h own_tells_of
        (fresh_stays p (c.generation - 1) low h refl refl (has_none p v.own.cached (omega arith))) (λ q i m. inl m) (λ s q u m. inl m) (λ s u m. inl m) (λ s i q m. inl m) (λ s x y m. inl m) own_tells_of.passed))

  -- the body that the own part has is that of its life
  pub lent_now : (p : ℕ) → 0 < lends p v.own → IsLent k.known c.lives v.own p
  lent_now p l = k.bodies.lent n v.own (part_at c heap homes n v k) p l

  -- its place at home is empty
  pub gone_now : (p : ℕ) → 0 < lends p v.own → get_or homes p None ≡ None
  gone_now p l = k.bodies.gone n v.own (part_at c heap homes n v k) p l

  word_entered : (p x : ℕ) → (h : Part) → p < length c.words → (IsSettled c.generation (get_or c.words p 0) → IsSettled c.generation x) → h.claimed ≡ v.own.claimed
      → ((q : ℕ) → q < length c.words → IsSettled c.generation (get_or c.words q 0) → 0 < length (life_in q c.lives).allocated → 0 < times q h.held + times q h.cached → 0 < times q v.own.held + times q v.own.cached)
      → h.log ≡ v.own.log → Entered c.generation (length c.words) (set c.words p x) c.lives c.sets (set c.hands n (hand_state h)) (logs_of n (acts v h)) k.names
  word_entered p x h low still claims has log = enters _ _ h (word_stays c.generation c.words c.lives p x low still) claims has (λ j q. ap (many (is_pop_of j q)) log)

  -- a step that changes a word, and neither lives nor bodies nor sets
  module _ (p x : ℕ) (low : p < length c.words) (h : Part) (f : HandState → HandState) (same : hand_state h ≡ f (hand_state v.own)) (c' : CoreState)
      (e : c' ≡ record c { words = set c.words p x; hands = set c.hands n (f (hand_of c n)) }) (o : Owned c') (t : IsTidy c') (r : HasSpace c') where
    word_keeps : (x + 2 ≡ c.generation → ⊥) → 0 < has3 p v.own → (IsSettled c.generation (get_or c.words p 0) → IsSettled c.generation x) → (IsWaiting c.generation x → IsWaiting c.generation (get_or c.words p 0)) → h.claimed ≡ v.own.claimed
        → ((q : ℕ) → q < length c.words → IsSettled c.generation (get_or c.words q 0) → 0 < length (life_in q c.lives).allocated → 0 < times q h.held + times q h.cached → 0 < times q v.own.held + times q v.own.cached)
        → h.log ≡ v.own.log → h.read ≡ v.own.read → h.spans ≡ v.own.spans → h.cache ≡ v.own.cache → h.pulled ≡ v.own.pulled → ((q : ℕ) → q ≢ p → lends q h ≡ lends q v.own) → 0 < lends p v.own → 0 < lends p h
        → ((q : ℕ) → has q h.fresh ≡ (has q h.cached && eqb (get_or (set c.words p x) q 0) (c.generation + 3))) → RuleOf c' heap homes n (acts v h) k.known
    word_keeps off mine still waits claims has log read spans cache pulled lend was is fresh =
        let d : CoreState = record c { words = set c.words p x; hands = set c.hands n (f (hand_of c n)) } in
        let lead = word_leads p x low off (λ i m. still m.1) in
        subst (λ (s : CoreState). RuleOf s heap homes n (acts v h) k.known) (sym e)
        (turned c heap homes n v k d heap homes h (subst Owned e o) (subst IsTidy e t) (subst HasSpace e r) refl (length-set c.words p x) refl (as_own h f same) refl refl refl k.legal k.allowed k.cycle k.known (own_cache c heap homes n v k h cache pulled (ap out_of log))
        p low (inl mine) k.names (word_entered p x h low still claims has log) lead (λ q d. refl) (λ q d. refl) refl (λ s d x. x) (λ q d. refl) lend (λ q d. ap (span_at q) spans)
        (λ l. let y = lent_now p was in let z : IsLent k.known c.lives h p = (y.0, ap (span_at p) spans ∙ y.1, y.2) in z) (λ g. inl is) (λ _. gone_now p was)
        (λ y. k.marks.kept p low (waits (subst (IsWaiting c.generation) (word_here p x low) y))) (λ i a b. a)
        (own_tells c.generation c.words c.lives c.sets (set c.words p x) c.lives c.sets p lead v.own h own_tells_of fresh
        (λ q i m. inl (subst (λ (y : List Entry). 0 < many (is_placing_at q i) y) log m)) (λ s q u m. inl (subst (λ (y : List Entry). 0 < many (is_pop_of s q) y) log m)) (λ s u m. inl (subst (λ (y : List Entry). 0 < many (is_seen_empty s) y) log m))
        (λ s i q m. inl (subst (λ (y : List Cell). has_cell s i q y ≡ true) read m)) (λ s x z m. inl (subst (λ (y : List Entry). 0 < many (is_look s x z) y) log m))
        (λ s. subst (λ (y : List Entry). many (is_pop s) y ≤ (get_or c.sets s no_set).head) (sym log) (own_tells_of.passed s))))

  -- a page that is held and not claimed for is lent
  pub held_lent : (p : ℕ) → has p v.own.held ≡ true → v.own.claimed ≡ None → 0 < lends p v.own
  held_lent p h none = let t = has_times p v.own.held h in
      let z : lends p v.own ≡ times p v.own.sweeping + times p v.own.cached + times p v.own.held = ap (λ (o : Option Claimed). times p v.own.sweeping + times p v.own.cached + only (not (is_claimed p o)) (times p v.own.held)) none in omega arith

  pub cache_keeps : (p : ℕ) → p < length c.words → has p v.own.held ≡ true → v.own.claimed ≡ None → (c' : CoreState) → c' ≡ after_cache c n p → Owned c' → IsTidy c' → HasSpace c' → RuleOf c' heap homes n (acts v (told (Caches p) v.own)) k.known
  cache_keeps p low held none c' e o t r =
      let h = told (Caches p) v.own in let g = c.generation in let have = has_times p v.own.held held in let more = times_end p v.own.cached in
      let once = once p low in
      let w = (held_list g (tally g c.words c.lives c.sets c.hands p) (kept.page p low).standing (let y = part_le (λ (y : HandState). times p y.held) c.hands n (hand_state v.own) (own_at c heap homes n v k) in omega arith)).0 in
      word_keeps p (g + 3) low h (put_in_cache p) refl c' e o t r (λ y. omega arith) (omega arith) (λ y. inr refl) (λ y. absurd (not_waiting _ (inr refl) y)) refl
      (λ q l x y z. dite (ℕ_discrete q p) (λ s. subst (λ (i : ℕ). 0 < times i v.own.held + times i v.own.cached) (sym s) (omega arith))
      (λ d. let a = times_erase_else q p v.own.held d in let b = times_end_else q p v.own.cached d in omega arith))
      refl refl refl refl refl
      (λ q d. let a = times_erase_else q p v.own.held d in let b = times_end_else q p v.own.cached d in
      rw a (let s = only (not (is_claimed q v.own.claimed)) (times q v.own.held) in omega arith))
      (held_lent p held none) (omega arith)
      (λ q. dite (ℕ_discrete q p)
      (λ s. subst (λ (z : ℕ). has z h.fresh ≡ (has z h.cached && eqb (get_or (set c.words p (g + 3)) z 0) (g + 3))) (sym s)
      (rw (has_end_here p v.own.fresh, has_end_here p v.own.cached, word_here p (g + 3) low, eq-eqb (g + 3) (g + 3) refl) refl))
      (λ d. has_end_else q p v.own.fresh d ∙ own_tells_of.fresh q ∙ ap (λ (w : ℕ). has q v.own.cached && eqb w (g + 3)) (sym (word_else p (g + 3) low q d)) ∙ ap (λ (b : Bool). b && eqb (get_or (set c.words p (g + 3)) q 0) (g + 3)) (sym (has_end_else q p v.own.cached d))))

  pub cached_lent : (p : ℕ) → has p v.own.cached ≡ true → 0 < lends p v.own
  cached_lent p h = let t = has_times p v.own.cached h in let s = only (not (is_claimed p v.own.claimed)) (times p v.own.held) in omega arith

  -- the own claim is not of a page that the own part has cached: that page is held
  not_claimed : (p : ℕ) → p < length c.words → 0 < times p v.own.cached → is_claimed p v.own.claimed ≡ false
  not_claimed p low l = go v.own.claimed refl
    where
      go : (o : Option Claimed) → v.own.claimed ≡ o → is_claimed p o ≡ false
      go None y = refl
      go (Some d) y = dite (ℕ_discrete d.page p)
          (λ s. let f = kept.sets_fit.claim n (hand_state v.own) (own_at c heap homes n v k) d y in let a = subst (λ (z : ℕ). 0 < times z v.own.held) s f.held in let b = once p low in absurd (omega arith))
          (λ s. ne_eqb d.page p s)

  module _ (p : ℕ) (low : p < length c.words) (cached : has p v.own.cached ≡ true) where
    uncached_else : (h : Part) (x : ℕ) → h.cached ≡ erase p v.own.cached → ((q : ℕ) → q ≢ p → has q h.fresh ≡ has q v.own.fresh) → has p h.fresh ≡ false → (x ≡ c.generation + 3 → ⊥)
        → (q : ℕ) → has q h.fresh ≡ (has q h.cached && eqb (get_or (set c.words p x) q 0) (c.generation + 3))
    uncached_else h x cs fs none d q = rw cs (dite (ℕ_discrete q p)
        (λ s. subst (λ (z : ℕ). has z h.fresh ≡ (has z (erase p v.own.cached) && eqb (get_or (set c.words p x) z 0) (c.generation + 3))) (sym s)
        (rw (none, word_here p x low, ne_eqb x (c.generation + 3) d) (sym (and_false (has p (erase p v.own.cached))))))
        (λ y. fs q y ∙ own_tells_of.fresh q ∙ ap (λ (w : ℕ). has q v.own.cached && eqb w (c.generation + 3)) (sym (word_else p x low q y)) ∙ ap (λ (b : Bool). b && eqb (get_or (set c.words p x) q 0) (c.generation + 3)) (sym (has_erase_else q p v.own.cached y))))

    pub uncache_keeps : get_or c.words p 0 ≡ c.generation + 3 → (c' : CoreState) → c' ≡ after_uncache c n p → Owned c' → IsTidy c' → HasSpace c' → RuleOf c' heap homes n (acts v (told (Uncaches p) v.own)) k.known
    uncache_keeps w c' e o t r =
        let h = told (Uncaches p) v.own in let g = c.generation in let have = has_times p v.own.cached cached in let more = times_end p v.own.held in let free = not_claimed p low have in
        word_keeps p g low h (take_from_cache p) refl c' e o t r (λ y. omega arith) (omega arith) (λ y. inl refl) (λ y. absurd (not_waiting _ (inl refl) y)) refl
        (λ q l x y z. dite (ℕ_discrete q p) (λ s. subst (λ (i : ℕ). 0 < times i v.own.held + times i v.own.cached) (sym s) (omega arith))
        (λ d. let a = times_erase_else q p v.own.cached d in let b = times_end_else q p v.own.held d in omega arith))
        refl refl refl refl refl
        (λ q d. rw (times_erase_else q p v.own.cached d, times_end_else q p v.own.held d) refl)
        (cached_lent p cached) (rw free (omega arith))
        (uncached_else h g refl (λ q d. without_else q p v.own.fresh d) (without_here p v.own.fresh) (λ y. omega arith))

    pub stale_keeps : get_or c.words p 0 ≡ c.generation + 1 → (c' : CoreState) → c' ≡ after_stale_uncache c n p → Owned c' → IsTidy c' → HasSpace c' → RuleOf c' heap homes n (acts v (told (UncachesStale p) v.own)) k.known
    stale_keeps w c' e o t r =
        let h = told (UncachesStale p) v.own in let g = c.generation in let have = has_times p v.own.cached cached in let more = times_end p v.own.sweeping in let l = four in
        let stale : has p v.own.fresh ≡ false = own_tells_of.fresh p ∙ rw (w, ne_eqb (g + 1) (g + 3) (λ y. omega arith)) (and_false (has p v.own.cached)) in
        word_keeps p (g - 1) low h (sweep_from_cache p) refl c' e o t r (λ y. omega arith) (omega arith) (λ y. absurd (unsettled _ (inr (inr w)) y)) (λ y. inr (inr w)) refl
        (λ q l x y z. dite (ℕ_discrete q p) (λ s. subst (λ (i : ℕ). 0 < times i v.own.held + times i v.own.cached) (sym s) (omega arith))
        (λ d. let a = times_erase_else q p v.own.cached d in omega arith))
        refl refl refl refl refl
        (λ q d. rw (times_erase_else q p v.own.cached d, times_end_else q p v.own.sweeping d) refl)
        (cached_lent p cached) (let s = only (not (is_claimed p v.own.claimed)) (times p v.own.held) in omega arith)
        (uncached_else h (g - 1) refl (λ q d. refl) stale (λ y. omega arith))
