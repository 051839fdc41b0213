-- Steps without a change of words, lives and sets keep the rule: entries of the log, dropped entries, lines of the journal, more room, and the way of the state from worker to worker.
use Rattle.std.proofs.Common.{◌≡◌, ℕ, zero, suc, ◌+◌, ◌-◌, ◌/◌, ◌<◌, ◌≤◌, ◌⊎◌, inl, inr, Bool, ◌&&◌, ◌||◌, eqb, eq-eqb, ne_eqb, true, false, true≢false, List, [], ◌∷◌, set, map, get_or, length, refl, ap, sym, subst, ◌∙◌, arith}
use Rattle.std.specs.Prelude.{None, Option}
use mathlib.Core.Logic.{dite}
use native.Mathlib.Decide.{ℕ_discrete}
use Rattle.std.proofs.lemmas.Bool.{eqb-true}
use Rattle.std.proofs.lemmas.List.{set-get_or}
use Rattle.page_alloc.specs.Heap.{HasMoreRoom, PageHeap}
use Rattle.page_alloc.specs.Journal.{AreAllowed, IsBy}
use Rattle.sound_run.specs.Run.{IsJournal}
use Rattle.page_bitmap.specs.Counts.{one_if}
use Rattle.page_bitmap.specs.declared.line.Line.{Line}
use Rattle.page_bitmap.specs.declared.line.Line.TheVariants.{Miss as MissLine}
use Rattle.span_state.specs.declared.body.Body.{Body}
use Rattle.sweep_laws.specs.ChangesOfHands.{drop_entry}
use Rattle.sweep_laws.specs.Changes.{after_drop_popped}
use Rattle.sweep_laws.specs.Counts.{times}
use Rattle.sweep_laws.specs.Lists.{erase, has}
use Rattle.sweep_laws.specs.Reading.{cell_of, hand_of, is_swept_set, no_hand, set_of}
use Rattle.sweep_laws.specs.OwnedLives.{EachAt}
use Rattle.sweep_laws.specs.Owned.{Owned}
use Rattle.sweep_laws.specs.State.{CoreState, HandState}
use Rattle.sweep_laws.specs.Tidy.{IsTidy, HasSpace}
use Rattle.sweep_laws.proofs.Forms.{kept_of, owned_of}
use Rattle.sweep_laws.proofs.NeedsMet.{both}
use Rattle.worker_log.specs.declared.Entry.TheVariants.{Looked}
use Rattle.worker_log.specs.Entries.{many, is_pop, is_pop_of, is_seen_empty}
use Rattle.swept_set_laws.specs.Entered.{Entered}
use Rattle.span_laws.specs.declared.said.Said.{Said}
use Rattle.span_laws.specs.declared.said.Said.TheVariants.{Finds, Misses, Looks, LooksCell, Reads, Adds, Resets, FindsNoPage, FindsNoCut}
use Rattle.span_laws.specs.declared.view.Part.{Part}
use Rattle.span_laws.specs.declared.view.View.{View}
use Rattle.span_laws.specs.Bodies.{Bodies, lends}
use Rattle.span_laws.specs.Logs.{is_look, is_placing_at}
use Rattle.span_laws.specs.Caches.{CacheTells}
use Rattle.span_laws.specs.Rule.{Rule, logs_of}
use Rattle.span_laws.specs.Suits.{IsQuiet}
use Rattle.span_laws.specs.Tells.{Tells}
use Rattle.span_laws.specs.Truth.{IsSo}
use Rattle.span_laws.specs.Views.{acts, hand_state, has_cell, parts_of}
use Rattle.span_laws.specs.OwnSteps.{told}
use Rattle.span_laws.proofs.BodiesKept.{bodies_stay}
use Rattle.span_laws.proofs.RuleKept.{RuleOf, moved, own_cache, own_hand, part_at}
use Rattle.span_laws.proofs.TellsKept.{own_tells, same_leads, tells_stay}
use Rattle.span_laws.proofs.WordMoves.{as_own, enters, own_tells_of}

erase_none : (p : ℕ) (xs : List ℕ) → has p xs ≡ false → erase p xs ≡ xs
erase_none p [] e = refl
erase_none p (x ∷ xs) e = dite (ℕ_discrete x p)
    (λ s. absurd (true≢false (subst (λ (b : Bool). (b || has p xs) ≡ false) (eq-eqb x p s) e)))
    (λ d. rw (ne_eqb x p d) (ap (λ (z : List ℕ). x ∷ z) (erase_none p xs (subst (λ (b : Bool). (b || has p xs) ≡ false) (ne_eqb x p d) e))))

module _ (c : CoreState) (heap : PageHeap) (homes : List (Option Body)) (n : ℕ) (v : View) (k : Rule c heap homes n v) where
  -- the own part changes in its log, and in what tells nothing of pages
  module _ (h : Part) (fresh : h.fresh ≡ v.own.fresh) (cached : h.cached ≡ v.own.cached) (spans : h.spans ≡ v.own.spans) (pops : (j q : ℕ) → many (is_pop_of j q) h.log ≡ many (is_pop_of j q) v.own.log)
      (log : (q i : ℕ) → many (is_placing_at q i) h.log ≡ many (is_placing_at q i) v.own.log)
      (seen : (s : ℕ) → is_swept_set c.generation s ≡ false → 0 < many (is_seen_empty s) h.log → (0 < many (is_seen_empty s) v.own.log) ⊎ ((set_of c s).head ≡ (set_of c s).tail))
      (read : (s i q : ℕ) → has_cell s i q h.read ≡ true → (has_cell s i q v.own.read ≡ true) ⊎ (cell_of (set_of c s) i ≡ q + 1))
      (look : (s x y : ℕ) → 0 < many (is_look s x y) h.log → (0 < many (is_look s x y) v.own.log) ⊎ ((x ≤ (set_of c s).head) × (y ≤ (set_of c s).tail)))
      (pop : (s : ℕ) → many (is_pop s) h.log ≡ many (is_pop s) v.own.log) where
    tells : Tells c.generation c.words c.lives c.sets h
    tells = own_tells c.generation c.words c.lives c.sets c.words c.lives c.sets 0 (same_leads c.generation c.words c.lives c.sets 0) v.own h (own_tells_of c heap homes n v k)
        (λ q. ap (has q) fresh ∙ (own_tells_of c heap homes n v k).fresh q ∙ ap (λ (l : List ℕ). has q l && eqb (get_or c.words q 0) (c.generation + 3)) (sym cached))
        (λ q i m. inl (subst (λ (z : ℕ). 0 < z) (log q i) m)) (λ s q u m. inl (subst (λ (z : ℕ). 0 < z) (pops s q) m)) seen read look
        (λ s. let a = (own_tells_of c heap homes n v k).passed s in let b = pop s in omega arith)

    module _ (held : h.held ≡ v.own.held) (sweeping : h.sweeping ≡ v.own.sweeping) (claimed : h.claimed ≡ v.own.claimed) (cache : CacheTells n h) where
      lend : (q : ℕ) → lends q h ≡ lends q v.own
      lend q = λ i. lends q (record v.own { sweeping = sweeping i; cached = cached i; held = held i; claimed = claimed i })

      entered : Entered c.generation (length c.words) c.words c.lives c.sets (set c.hands n (hand_state h)) (logs_of n (acts v h)) k.names
      entered = enters c heap homes n v k _ _ h (λ q l x y. (x, refl, λ m. refl)) claimed
          (λ q l x y z. subst (λ (w : List ℕ × List ℕ). 0 < times q w.0 + times q w.1) (λ i. (held i, cached i)) z) pops

      -- and the core by the same change of the own hand, at most
      pub hand_changes : (f : HandState → HandState) → hand_state h ≡ f (hand_state v.own) → (c' : CoreState) → c' ≡ record c { hands = set c.hands n (f (hand_of c n)) } → Owned c' → IsTidy c' → HasSpace c' → RuleOf c' heap homes n (acts v h) k.known
      hand_changes f same c' e o t r =
          let d : CoreState = record c { hands = set c.hands n (f (hand_of c n)) } in
          subst (λ (s : CoreState). RuleOf s heap homes n (acts v h) k.known) (sym e)
          (moved c heap homes n v k d heap homes h (subst Owned e o) (subst IsTidy e t) (subst HasSpace e r) refl refl refl (as_own c heap homes n v k h f same) refl refl refl k.legal k.allowed k.cycle k.known cache k.names entered
          (bodies_stay (length c.words) k.known c.lives homes (parts_of n v) k.bodies n v.own (part_at c heap homes n v k) h lend spans) k.marks
          (tells_stay c.generation c.words c.lives c.sets (parts_of n v) n h k.tells tells))

      -- and the journal, under the lock
      pub line_changes : (f : HandState → HandState) → hand_state h ≡ f (hand_state v.own) → (heap' : PageHeap) → heap'.region ≡ heap.region → heap'.goal ≡ heap.goal → IsJournal heap'.region heap'.goal heap'.past → AreAllowed v.procs heap'.past
          → IsBy ((c.generation - 4) / 2) heap'.past → (c' : CoreState) → c' ≡ record c { hands = set c.hands n (f (hand_of c n)); lock = None } → Owned c' → IsTidy c' → HasSpace c' → RuleOf c' heap' homes n (acts v h) k.known
      line_changes f same heap' region goal legal allowed by c' e o t r =
          let d : CoreState = record c { hands = set c.hands n (f (hand_of c n)); lock = None } in
          subst (λ (s : CoreState). RuleOf s heap' homes n (acts v h) k.known) (sym e)
          (moved c heap homes n v k d heap' homes h (subst Owned e o) (subst IsTidy e t) (subst HasSpace e r) (sym k.unlocked) refl refl (as_own c heap homes n v k h f same) refl region goal legal allowed by k.known cache k.names entered
          (bodies_stay (length c.words) k.known c.lives homes (parts_of n v) k.bodies n v.own (part_at c heap homes n v k) h lend spans) k.marks
          (tells_stay c.generation c.words c.lives c.sets (parts_of n v) n h k.tells tells))

      pub log_changes : hand_state h ≡ hand_state v.own → (heap' : PageHeap) → heap'.region ≡ heap.region → heap'.goal ≡ heap.goal → IsJournal heap'.region heap'.goal heap'.past → AreAllowed v.procs heap'.past → IsBy ((c.generation - 4) / 2) heap'.past
          → RuleOf c heap' homes n (acts v h) k.known
      log_changes same heap' region goal legal allowed by =
          moved c heap homes n v k c heap' homes h k.owned k.tidy k.space refl refl refl
          (sym (set-get_or c.hands n no_hand) ∙ ap (λ (s : HandState). set c.hands n s) (own_hand c heap homes n v k ∙ sym same)) refl region goal legal allowed by k.known cache k.names entered
          (bodies_stay (length c.words) k.known c.lives homes (parts_of n v) k.bodies n v.own (part_at c heap homes n v k) h lend spans) k.marks
          (tells_stay c.generation c.words c.lives c.sets (parts_of n v) n h k.tells tells)

  -- an entry without a move
  pub note_keeps : (s : Said) → IsQuiet v.own s → IsSo c heap s → RuleOf c heap homes n (acts v (told s v.own)) k.known
  note_keeps (Finds p w) q o = let h = told (Finds p w) v.own in
      log_changes h refl refl refl (λ j q. omega arith) (λ q i. omega arith) (λ s u m. inl (omega arith)) (λ s i q m. inl m) (λ s x y m. inl (omega arith)) (λ s. omega arith) refl refl refl (own_cache c heap homes n v k h refl refl refl)
      (ap (λ (l : List ℕ). record (hand_state v.own) { popped = l }) (erase_none p v.own.popped q)) heap refl refl k.legal k.allowed k.cycle
  note_keeps (Looks set head tail) q o = let h = told (Looks set head tail) v.own in
      log_changes h refl refl refl (λ j q. omega arith) (λ q i. omega arith) (λ s u m. looked s m) (λ s i q m. inl m) (λ s x y m. ahead s x y m) (λ s. omega arith) refl refl refl (own_cache c heap homes n v k h refl refl refl) refl heap refl refl k.legal k.allowed k.cycle
    where
      ahead : (s x y : ℕ) → 0 < many (is_look s x y) (Looked set head tail ∷ v.own.log) → (0 < many (is_look s x y) v.own.log) ⊎ ((x ≤ (set_of c s).head) × (y ≤ (set_of c s).tail))
      ahead s x y m = go (eqb set s && (eqb head x && eqb tail y)) refl
        where
          go : (b : Bool) → (eqb set s && (eqb head x && eqb tail y)) ≡ b → (0 < many (is_look s x y) v.own.log) ⊎ ((x ≤ (set_of c s).head) × (y ≤ (set_of c s).tail))
          go true e = let t = both (eqb set s) (eqb head x && eqb tail y) e in let u = both (eqb head x) (eqb tail y) t.1 in
              inr (subst (λ (z : ℕ). (x ≤ (set_of c z).head) × (y ≤ (set_of c z).tail)) (eqb-true set s t.0) (let a = eqb-true head x u.0 in let b = eqb-true tail y u.1 in let f = o.0 in let g = o.1 in (omega arith, omega arith)))
          go false e = inl (let z = ap one_if e in omega arith)

      looked : (s : ℕ) → 0 < many (is_seen_empty s) (Looked set head tail ∷ v.own.log) → (0 < many (is_seen_empty s) v.own.log) ⊎ ((set_of c s).head ≡ (set_of c s).tail)
      looked s m = go (eqb set s && eqb head tail) refl
        where
          go : (b : Bool) → (eqb set s && eqb head tail) ≡ b → (0 < many (is_seen_empty s) v.own.log) ⊎ ((set_of c s).head ≡ (set_of c s).tail)
          go true e = let t = both (eqb set s) (eqb head tail) e in inr (subst (λ (z : ℕ). (set_of c z).head ≡ (set_of c z).tail) (eqb-true set s t.0) (sym o.0 ∙ eqb-true head tail t.1 ∙ o.1))
          go false e = inl (let z = ap one_if e in omega arith)
  note_keeps (LooksCell set index cell) q o = by_cell cell o
    where
      by_cell : (x : ℕ) → x ≡ cell_of (set_of c set) index → RuleOf c heap homes n (acts v (told (LooksCell set index x) v.own)) k.known
      by_cell zero e = let h = told (LooksCell set index 0) v.own in
          log_changes h refl refl refl (λ j q. omega arith) (λ q i. omega arith) (λ s u m. inl (omega arith)) (λ s i q m. inl m) (λ s x y m. inl (omega arith)) (λ s. omega arith) refl refl refl (own_cache c heap homes n v k h refl refl refl) refl heap refl refl k.legal k.allowed k.cycle
      by_cell (suc page) e = let h = told (LooksCell set index (suc page)) v.own in
          log_changes h refl refl refl (λ j q. refl) (λ q i. refl) (λ s u m. inl m) (λ s i q m. seen s i q m) (λ s x y m. inl m) (λ s. refl) refl refl refl (own_cache c heap homes n v k h refl refl refl) refl heap refl refl k.legal k.allowed k.cycle
        where
          seen : (s i q : ℕ) → ((eqb set s && (eqb index i && eqb page q)) || has_cell s i q v.own.read) ≡ true → (has_cell s i q v.own.read ≡ true) ⊎ (cell_of (set_of c s) i ≡ q + 1)
          seen s i q m = go (eqb set s && (eqb index i && eqb page q)) refl
            where
              go : (b : Bool) → (eqb set s && (eqb index i && eqb page q)) ≡ b → (has_cell s i q v.own.read ≡ true) ⊎ (cell_of (set_of c s) i ≡ q + 1)
              go true f = let t = both (eqb set s) (eqb index i && eqb page q) f in let u = both (eqb index i) (eqb page q) t.1 in
                  inr (subst (λ (z : ℕ × ℕ). cell_of (set_of c z.0) z.1 ≡ q + 1) (λ j. (eqb-true set s t.0 j, eqb-true index i u.0 j)) (sym e ∙ (let w = eqb-true page q u.1 in omega arith)))
              go false f = inl (rw f at m)
  note_keeps (Reads word value) q o = let h = told (Reads word value) v.own in
      log_changes h refl refl refl (λ j q. omega arith) (λ q i. omega arith) (λ s u m. inl (omega arith)) (λ s i q m. inl m) (λ s x y m. inl (omega arith)) (λ s. omega arith) refl refl refl (own_cache c heap homes n v k h refl refl refl) refl heap refl refl k.legal k.allowed k.cycle
  note_keeps (Adds word value number) q o = let h = told (Adds word value number) v.own in
      log_changes h refl refl refl (λ j q. omega arith) (λ q i. omega arith) (λ s u m. inl (omega arith)) (λ s i q m. inl m) (λ s x y m. inl (omega arith)) (λ s. omega arith) refl refl refl (own_cache c heap homes n v k h refl refl refl) refl heap refl refl k.legal k.allowed k.cycle
  note_keeps (Resets set) q o = let h = told (Resets set) v.own in
      log_changes h refl refl refl (λ j q. refl) (λ q i. refl) (λ s u m. inl m) (λ s i q m. inl m) (λ s x y m. inl m) (λ s. refl) refl refl refl (own_cache c heap homes n v k h refl refl refl) refl heap refl refl k.legal k.allowed k.cycle
  note_keeps FindsNoPage q o = let h = told FindsNoPage v.own in
      log_changes h refl refl refl (λ j q. omega arith) (λ q i. omega arith) (λ s u m. inl (omega arith)) (λ s i q m. inl m) (λ s x y m. inl (omega arith)) (λ s. omega arith) refl refl refl (own_cache c heap homes n v k h refl refl refl) refl heap refl refl k.legal k.allowed k.cycle
  note_keeps (FindsNoCut pages left) q o = let h = told (FindsNoCut pages left) v.own in
      log_changes h refl refl refl (λ j q. omega arith) (λ q i. omega arith) (λ s u m. inl (omega arith)) (λ s i q m. inl m) (λ s x y m. inl (omega arith)) (λ s. omega arith) refl refl refl (own_cache c heap homes n v k h refl refl refl) refl heap refl refl k.legal k.allowed k.cycle
  note_keeps _ q o = absurd q

  -- a popped entry is dropped, since its page has another word
  pub drop_keeps : (p w : ℕ) → (c' : CoreState) → c' ≡ after_drop_popped c n p → Owned c' → IsTidy c' → HasSpace c' → RuleOf c' heap homes n (acts v (told (Finds p w) v.own)) k.known
  drop_keeps p w c' e o t r = let h = told (Finds p w) v.own in
      hand_changes h refl refl refl (λ j q. omega arith) (λ q i. omega arith) (λ s u m. inl (omega arith)) (λ s i q m. inl m) (λ s x y m. inl (omega arith)) (λ s. omega arith) refl refl refl (own_cache c heap homes n v k h refl refl refl) (drop_entry p) refl c' e o t r

  -- no run was free
  pub miss_keeps : (line cycle pages class : ℕ) (heap' : PageHeap) → heap'.region ≡ heap.region → heap'.goal ≡ heap.goal → IsJournal heap'.region heap'.goal heap'.past → IsBy ((c.generation - 4) / 2) heap'.past
      → heap'.past ≡ MissLine cycle pages class ∷ heap.past → RuleOf c heap' homes n (acts v (told (Misses line cycle pages class) v.own)) k.known
  miss_keeps line cycle pages class heap' region goal legal by past = let h = told (Misses line cycle pages class) v.own in
      log_changes h refl refl refl (λ j q. omega arith) (λ q i. omega arith) (λ s u m. inl (omega arith)) (λ s i q m. inl m) (λ s x y m. inl (omega arith)) (λ s. omega arith) refl refl refl (own_cache c heap homes n v k h refl refl refl) refl heap' region goal legal
      (subst (AreAllowed v.procs) (sym past) (tt, k.allowed)) by

  -- the journal and its room change
  pub heap_keeps : (heap' : PageHeap) → heap'.region ≡ heap.region → heap'.goal ≡ heap.goal → IsJournal heap'.region heap'.goal heap'.past → AreAllowed v.procs heap'.past → IsBy ((c.generation - 4) / 2) heap'.past → RuleOf c heap' homes n v k.known
  heap_keeps heap' region goal legal allowed by = let h = v.own in
      log_changes h refl refl refl (λ j q. refl) (λ q i. refl) (λ s u m. inl m) (λ s i q m. inl m) (λ s x y m. inl m) (λ s. refl) refl refl refl (own_cache c heap homes n v k h refl refl refl) refl heap' region goal legal allowed by

  pub room_keeps : (heap' : PageHeap) → HasMoreRoom heap heap' → RuleOf c heap' homes n v k.known
  room_keeps heap' m = heap_keeps heap' m.region m.goal (subst (λ (z : ℕ × ℕ × List Line). IsJournal z.0 z.1 z.2) (λ i. (sym m.region i, sym m.goal i, sym m.past i)) k.legal) (subst (AreAllowed v.procs) (sym m.past) k.allowed)
      (subst (IsBy ((c.generation - 4) / 2)) (sym m.past) k.cycle)

  pub life_keeps : (x : ℕ) → RuleOf (record c { prepared = x }) heap homes n v k.known
  life_keeps x = (
    record {
      owned = owned_of (record c { prepared = x }) (kept_of c k.owned);
      tidy = record { hands = k.tidy.hands; lives = k.tidy.lives };
      space = record { room = k.space.room; tails = k.space.tails };
      unlocked = k.unlocked;
      number = k.number;
      hands = k.hands;
      region = k.region;
      small = k.small;
      goal = k.goal;
      generation = k.generation;
      sets = k.sets;
      heap_region = k.heap_region;
      legal = k.legal;
      allowed = k.allowed;
      cycle = k.cycle;
      early = k.early;
      names = k.names;
      entered = k.entered;
      known = k.known;
      bodies = k.bodies;
      marks = k.marks;
      tells = k.tells;
      caches = k.caches;
    },
    refl,
  )

  -- another worker has the state, and the parts are the same by number
  pub seat_keeps : (m : ℕ) (x : Part) (ps : List Part) → set ps m x ≡ parts_of n v → m < length ps → RuleOf c heap homes m (record v { own = x; parts = ps }) k.known
  seat_keeps m x ps same low = (
    record {
      owned = k.owned;
      tidy = k.tidy;
      space = k.space;
      unlocked = k.unlocked;
      number = low;
      hands = k.hands ∙ ap (λ (l : List Part). map hand_state l) (sym same);
      region = k.region;
      small = k.small;
      goal = k.goal;
      generation = k.generation;
      sets = k.sets;
      heap_region = k.heap_region;
      legal = k.legal;
      allowed = k.allowed;
      cycle = k.cycle;
      early = k.early;
      names = k.names;
      entered = subst (λ (l : List Part). Entered c.generation (length c.words) c.words c.lives c.sets c.hands (map (λ (h : Part). h.log) l) k.names) (sym same) k.entered;
      known = k.known;
      bodies = subst (λ (l : List Part). Bodies (length c.words) k.known c.lives homes l) (sym same) k.bodies;
      marks = k.marks;
      tells = subst (λ (l : List Part). EachAt l (λ i h. Tells c.generation c.words c.lives c.sets h)) (sym same) k.tells;
      caches = subst (λ (l : List Part). EachAt l (λ i h. CacheTells i h)) (sym same) k.caches;
    },
    refl,
  )
