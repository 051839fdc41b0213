-- The steps that change a life keep the rule: Release, Take, Give, Allocate.
use Rattle.std.proofs.Common.{◌≡◌, ◌≢◌, ℕ, ◌+◌, ◌-◌, ◌/◌, ◌<◌, ◌⊎◌, inl, inr, ⊎_elim, Bool, not, eq-eqb, ne_eqb, true, false, true≢false, List, [], ◌∷◌, ◌++◌, set, get_or, length, refl, ap, sym, subst, ◌∙◌, arith}
use Rattle.std.specs.Prelude.{None, Some, Option}
use mathlib.Core.Logic.{dite}
use native.Mathlib.Decide.{ℕ_discrete}
use Rattle.std.proofs.Math.ListN.{length-set}
use Rattle.page_alloc.specs.Heap.{PageHeap}
use Rattle.page_alloc.specs.Lives.{Life, life_of, others}
use Rattle.page_alloc.specs.Journal.{AreAllowed, IsBy}
use Rattle.sound_run.specs.Run.{IsJournal}
use Rattle.page_alloc.specs.Lists.{In}
use Rattle.page_alloc.proofs.Lives.{to_others}
use Rattle.page_bitmap.specs.Counts.{one_if}
use Rattle.page_cache.specs.Cache.{Cache}
use Rattle.page_bitmap.specs.declared.line.Line.TheVariants.{Take as TakeLine, Give as GiveLine}
use Rattle.span_state.specs.Bits.{bit_of}
use Rattle.span_state.specs.MarkSet.{has_pair}
use Rattle.span_state.specs.declared.body.Body.{Body}
use Rattle.sweep_laws.specs.ChangesOfHands.{end_sweep, hold, let_go}
use Rattle.sweep_laws.specs.ChangesOfLives.{marks_at, change_life, drop_life, keep_marked, left_prepared, new_life}
use Rattle.sweep_laws.specs.Changes.{after_give, after_release, after_take}
use Rattle.sweep_laws.specs.Counts.{times}
use Rattle.sweep_laws.specs.declared.moves.Claimed.{Claimed}
use Rattle.sweep_laws.specs.Lists.{erase, has, put_run}
use Rattle.sweep_laws.specs.Named.{begins, only}
use Rattle.sweep_laws.specs.Reading.{hand_of, life_in, no_life}
use Rattle.sweep_laws.specs.Owned.{Owned}
use Rattle.sweep_laws.specs.Standing.{tally}
use Rattle.sweep_laws.specs.State.{CoreState, HandState, LifeState}
use Rattle.sweep_laws.specs.Tidy.{IsTidy, HasSpace}
use Rattle.sweep_laws.proofs.Forms.{kept_of}
use Rattle.sweep_laws.proofs.HeapMoves.{free_before}
use Rattle.sweep_laws.proofs.Lives.{alike_begins, changed_alike}
use Rattle.sweep_laws.proofs.LivesChange.{begins_append_else, begins_drop}
use Rattle.sweep_laws.proofs.Naming.{has_times, times_erase, times_erase_else}
use Rattle.sweep_laws.proofs.Standings.{free_word, sweeping_list}
use Rattle.sweep_laws.proofs.Totals.{part_le, times_end, times_end_else}
use Rattle.worker_log.specs.declared.Entry.{Entry}
use Rattle.worker_log.specs.declared.Entry.TheVariants.{Took}
use Rattle.worker_log.specs.Entries.{is_pop, is_pop_of, is_seen_empty}
use Rattle.swept_set_laws.specs.Entered.{IsSettled}
use Rattle.swept_set_laws.proofs.Stays.{append_else, append_stays, change_else, change_stays, drop_stays}
use Rattle.span_laws.specs.declared.said.Said.TheVariants.{Gives}
use Rattle.span_laws.specs.declared.said.SaidOf.TheVariants.{Releases, Takes}
use Rattle.span_laws.specs.declared.view.Part.{Part}
use Rattle.span_laws.specs.declared.view.Span.{Span}
use Rattle.span_laws.specs.declared.view.View.{View}
use Rattle.span_laws.specs.Bodies.{Fits, IsBody, IsOpen, IsWaiting, is_claimed, lends}
use Rattle.span_laws.specs.Caches.{CacheTells}
use Rattle.span_laws.specs.Logs.{is_look, is_placing_at}
use Rattle.span_laws.specs.Rule.{Rule}
use Rattle.span_laws.specs.Suits.{WasLent}
use Rattle.span_laws.specs.Views.{acts, hand_state}
use Rattle.span_laws.specs.OwnSteps.{told, told_of}
use Rattle.span_laws.proofs.Lives.{appended_here, changed_here, drop_else, none_here, sweep_body}
use Rattle.span_laws.proofs.Parts.{has3, has_none}
use Rattle.span_laws.proofs.RuleKept.{RuleOf, own_at, own_cache, turned}
use Rattle.span_laws.proofs.TellsKept.{Leads, own_tells}
use Rattle.span_laws.proofs.WordMoves.{as_own, enters, four, fresh_stays, gone_now, held_lent, kept, lent_now, not_waiting, once, own_tells_of, span_else, span_here, unsettled, word_else, word_here}

some_same : {A : Type 0} (a b : A) → Some a ≡ Some b → a ≡ b
some_same a b e = cc

-- the part and the core after a span began
abbrev pub begun : Span → List ℕ → Option Cache → Entry → Part → Part
begun b pulled cache entry h = record h { held = h.held ++ b.page ∷ []; spans = b ∷ h.spans; pulled = pulled; cache = cache; log = entry ∷ h.log }

abbrev pub begun_core : CoreState → ℕ → Span → (HandState → HandState) → CoreState
begun_core c n b f = record c {
  words = set c.words b.page c.generation;
  owners = put_run c.owners b.page b.pages (Some b.page);
  lives = c.lives ++ new_life b.page b.pages b.count b.class ∷ [];
  hands = set c.hands n (f (hand_of c n));
  prepared = left_prepared c.prepared b.count;
  lock = None;
}

module _ (c : CoreState) (heap : PageHeap) (homes : List (Option Body)) (n : ℕ) (v : View) (k : Rule c heap homes n v) where
  pub begin_at : (p : ℕ) → p < length c.words → get_or c.words p 0 ≢ 0 → begins p c.lives ≡ true
  begin_at p low d = (kept c heap homes n v k).lives_fit.begin p low ∙ ap not (ne_eqb (get_or c.words p 0) 0 d)

  -- a page that is not held is not claimed for
  pub unclaimed : (p : ℕ) → times p v.own.held ≡ 0 → is_claimed p v.own.claimed ≡ false
  unclaimed p none = go v.own.claimed refl
    where
      go : (o : Option Claimed) → v.own.claimed ≡ o → is_claimed p o ≡ false
      go None y = refl
      go (Some d) y = dite (ℕ_discrete d.page p)
          (λ s. let f = (kept c heap homes n v k).sets_fit.claim n (hand_state v.own) (own_at c heap homes n v k) d y in let a = subst (λ (z : ℕ). 0 < times z v.own.held) s f.held in absurd (omega arith))
          (λ s. ne_eqb d.page p s)

  -- where the word of a page was not settled, its life may change
  life_leads : (p x : ℕ) (ls' : List LifeState) → p < length c.words → (x + 2 ≡ c.generation → ⊥) → (IsSettled c.generation (get_or c.words p 0) → ⊥) → ((q : ℕ) → q ≢ p → life_in q ls' ≡ life_in q c.lives)
      → Leads c.generation c.words c.lives c.sets (set c.words p x) ls' c.sets p
  life_leads p x ls' low off none life = record {
    words = word_else c heap homes n v k p x low;
    waits = λ q w. dite (ℕ_discrete q p)
        (λ e. absurd (off (ap (λ (z : ℕ). z + 2) (sym (word_here c heap homes n v k p x low) ∙ ap (λ (z : ℕ). get_or (set c.words p x) z 0) (sym e)) ∙ w)))
        (λ d. (ap (λ (z : ℕ). z + 2) (sym (word_else c heap homes n v k p x low q d)) ∙ w, ap (λ (l : LifeState). l.class) (life q d)));
    placed = λ q i m. dite (ℕ_discrete q p)
        (λ e. absurd (none (subst (λ (z : ℕ). IsSettled c.generation (get_or c.words z 0)) e m.1)))
        (λ d. (subst (λ (z : ℕ). q < z) (sym (length-set c.words p x)) m.0, subst (IsSettled c.generation) (sym (word_else c heap homes n v k p x low q d)) m.1, subst (λ (l : LifeState). 0 < times i l.allocated) (sym (life q d)) m.2));
    empty = λ s u e. e;
    cells = λ s i q e. e;
    grow = λ s. (omega arith, omega arith);
    filled = λ s u f. f;
  }

  -- the sweep of a span ends, with a body that has its marks
  module _ (b : Span) (low : b.page < length c.words) (sweeping : has b.page v.own.sweeping ≡ true) (was : WasLent v.own b) (bits : (j : ℕ) → bit_of b.bits j ≡ has_pair v.marks b.page j) where
    pub release_keeps : (c' : CoreState) → c' ≡ after_release c n b.page → Owned c' → IsTidy c' → HasSpace c' → RuleOf c' heap homes n (acts v (told_of Releases b v.own)) k.known
    release_keeps c' e o t r =
        let p = b.page in let h = told_of Releases b v.own in let g = c.generation in let have = has_times p v.own.sweeping sweeping in let once₁ = once c heap homes n v k p low in
        let more = times_end p v.own.held in
        let word = (sweeping_list g (tally g c.words c.lives c.sets c.hands p) ((kept c heap homes n v k).page p low).standing (let y = part_le (λ (y : HandState). times p y.sweeping) c.hands n (hand_state v.own) (own_at c heap homes n v k) in omega arith)).0 in
        let none : IsSettled g (get_or c.words p 0) → ⊥ = unsettled c heap homes n v k _ (inr (inl word)) in
        let begun = begin_at p low (λ z. let f = four c heap homes n v k in omega arith) in
        let ls' = change_life p keep_marked c.lives in
        let now : life_in p ls' ≡ keep_marked (life_in p c.lives) = changed_here p keep_marked (λ l. refl) c.lives begun in
        let life : (q : ℕ) → q ≢ p → life_in q ls' ≡ life_in q c.lives = (λ q d. (change_else p q keep_marked (λ l. refl) c.lives d).0) in
        let marks : (life_in p c.lives).kept ≡ marks_at p v.marks = k.marks.kept p low (inr (inl word)) in
        let lent = lent_now c heap homes n v k p (let s = only_more in omega arith) in
        let same : lent.0 ≡ was.0 = some_same lent.0 was.0 (sym lent.1 ∙ was.1) in
        let fits : Fits k.known c.lives p was.0 = subst (Fits k.known c.lives p) same lent.2 in
        let place = was.2 in
        let lead = life_leads p g ls' low (λ y. omega arith) none life in
        let d : CoreState = after_release c n p in
        subst (λ (s : CoreState). RuleOf s heap homes n (acts v h) k.known) (sym e)
        (turned c heap homes n v k d heap homes h (subst Owned e o) (subst IsTidy e t) (subst HasSpace e r) refl (length-set c.words p _) refl (as_own c heap homes n v k h (end_sweep p) refl) refl refl refl k.legal k.allowed k.cycle k.known (own_cache c heap homes n v k h refl refl refl)
        p low (inl (omega arith)) k.names
        (enters c heap homes n v k _ _ h (change_stays g c.words c.lives p _ low none keep_marked (λ l. refl)) refl
        (λ q l x y z. let w = times_end_else q p v.own.held (λ s. none (subst (λ (i : ℕ). IsSettled g (get_or c.words i 0)) s x)) in omega arith) (λ j q. omega arith))
        lead life (λ q d. sym (alike_begins q c.lives ls' (changed_alike p keep_marked (λ l. record { page = refl; pages = refl; class = refl }) c.lives))) refl (λ s d x. x) (λ q d. refl)
        (λ q d. rw (times_erase_else q p v.own.sweeping d, times_end_else q p v.own.held d) refl) (λ q d. span_else b v.own.spans q d)
        (λ l. (
          b,
          span_here b v.own.spans,
          record {
            page = refl;
            body = subst (IsBody b) (sym now) (sweep_body was.0 b (life_in p c.lives) v.marks fits.body (record { page = place.page; pages = place.pages; count = place.count; class = place.class }) bits marks);
            line = (fits.line.0, subst (λ (z : Life). In z k.known) (λ i. life_of (place.life i) fits.line.0 (place.page i) (place.pages i) (place.class i)) fits.line.1);
          },
        ))
        (λ y. inl (rw (unclaimed p (omega arith)) (omega arith)))
        (λ _. gone_now c heap homes n v k p (let s = only_more in omega arith))
        (λ y. absurd (not_waiting c heap homes n v k _ (inl (word_here c heap homes n v k p g low)) y))
        (λ i a m. subst (λ (l : LifeState). 0 < times i l.allocated) (sym now) (subst (λ (z : List ℕ). 0 < times i z) (sym marks) m))
        (own_tells g c.words c.lives c.sets (set c.words p g) ls' c.sets p lead v.own h (own_tells_of c heap homes n v k)
        (fresh_stays c heap homes n v k p g low h refl refl (has_none p v.own.cached (omega arith))) (λ q i m. inl (omega arith)) (λ s q u m. inl (omega arith)) (λ s u m. inl (omega arith)) (λ s i q m. inl m) (λ s x y m. inl (omega arith)) (λ s. let a = (own_tells_of c heap homes n v k).passed s in omega arith)))
      where
        only_more : 0 < lends b.page v.own
        only_more = let have = has_times b.page v.own.sweeping sweeping in let s = only (not (is_claimed b.page v.own.claimed)) (times b.page v.own.held) in omega arith

  -- a page without an owner begins no life
  module _ (p : ℕ) (low : p < length c.words) (free : get_or c.owners p None ≡ None) where
    pub free_zero : get_or c.words p 0 ≡ 0
    free_zero = free_before c.generation c.words c.owners c.lives (kept c heap homes n v k).lives_fit p low free

    pub free_begins : begins p c.lives ≡ false
    free_begins = (kept c heap homes n v k).lives_fit.begin p low ∙ ap not (eq-eqb (get_or c.words p 0) 0 free_zero)

    pub free_unsettled : IsSettled c.generation (get_or c.words p 0) → ⊥
    free_unsettled z = let w = free_zero in let f = four c heap homes n v k in
        ⊎_elim (λ (y : get_or c.words p 0 ≡ c.generation). let x : ⊥ = omega arith in x) (λ (y : get_or c.words p 0 ≡ c.generation + 3). let x : ⊥ = omega arith in x) z

    pub free_has : has3 p v.own ≡ 0
    free_has = let z = free_word c.generation (tally c.generation c.words c.lives c.sets c.hands p) (four c heap homes n v k) ((kept c heap homes n v k).page p low).standing free_zero in
        let s = part_le (λ (y : HandState). times p y.sweeping) c.hands n (hand_state v.own) (own_at c heap homes n v k) in
        let t = part_le (λ (y : HandState). times p y.held) c.hands n (hand_state v.own) (own_at c heap homes n v k) in
        let u = part_le (λ (y : HandState). times p y.cached) c.hands n (hand_state v.own) (own_at c heap homes n v k) in omega arith

  -- a span begins at a page that is nobody's: it was taken, or cut of a block
  module _ (b : Span) (low : b.page < length c.words) (free : get_or c.owners b.page None ≡ None) (empty : (j : ℕ) → bit_of b.bits j ≡ false) (f : HandState → HandState) (pulled : List ℕ) (cache : Option Cache) (entry : Entry)
      (same : hand_state (begun b pulled cache entry v.own) ≡ f (hand_state v.own)) (pops : (j q : ℕ) → is_pop_of j q entry ≡ false) (places : (q i : ℕ) → is_placing_at q i entry ≡ false) (seen : (s : ℕ) → is_seen_empty s entry ≡ false)
      (look : (s x y : ℕ) → is_look s x y entry ≡ false) (pop : (s : ℕ) → is_pop s entry ≡ false) (tells : CacheTells n (begun b pulled cache entry v.own)) (heap' : PageHeap) (region : heap'.region ≡ heap.region) (goal : heap'.goal ≡ heap.goal)
      (legal : IsJournal heap'.region heap'.goal heap'.past) (allowed : AreAllowed v.procs heap'.past) (by : IsBy ((c.generation - 4) / 2) heap'.past) (known' : List Life) (line : IsOpen known' b) (more : (s : Span) → IsOpen k.known s → IsOpen known' s) where
    pub begin_keeps : (c' : CoreState) → c' ≡ begun_core c n b f → Owned c' → IsTidy c' → HasSpace c' → RuleOf c' heap' homes n (acts v (begun b pulled cache entry v.own)) known'
    begin_keeps c' e o t r =
        let p = b.page in let h = begun b pulled cache entry v.own in let g = c.generation in
        let zero = free_has p low free in let grows = times_end p v.own.held in let none = free_unsettled p low free in
        let m : LifeState = new_life p b.pages b.count b.class in let ls' = c.lives ++ m ∷ [] in
        let now : life_in p ls' ≡ m = appended_here p m refl c.lives (free_begins p low free) in
        let was : life_in p c.lives ≡ no_life = none_here p c.lives (free_begins p low free) in
        let life : (q : ℕ) → q ≢ p → life_in q ls' ≡ life_in q c.lives = (λ q d. append_else q m c.lives (λ z. d (sym z))) in
        let lead = life_leads p g ls' low (λ y. omega arith) none life in
        let d : CoreState = begun_core c n b f in
        subst (λ (s : CoreState). RuleOf s heap' homes n (acts v h) known') (sym e)
        (turned c heap homes n v k d heap' homes h (subst Owned e o) (subst IsTidy e t) (subst HasSpace e r) (sym k.unlocked) (length-set c.words p _) refl (as_own c heap homes n v k h f same) refl region goal legal allowed by known' tells
        p low (inr (omega arith)) k.names
        (enters c heap homes n v k _ _ h (append_stays g c.words c.lives p g low none m refl) refl
        (λ q l x y z. let w = times_end_else q p v.own.held (λ s. none (subst (λ (i : ℕ). IsSettled g (get_or c.words i 0)) s x)) in omega arith) (λ j q. let z = ap one_if (pops j q) in omega arith))
        lead life (λ q d. begins_append_else q c.lives m (λ z. d (sym z))) refl (λ s d x. more s x) (λ q d. refl)
        (λ q d. rw (times_end_else q p v.own.held d) refl) (λ q d. span_else b v.own.spans q d)
        (λ l. (
          b,
          span_here b v.own.spans,
          record {
            page = refl;
            body = subst (IsBody b) (sym now) (record { page = refl; pages = refl; count = refl; class = refl; bits = empty });
            line = line;
          },
        ))
        (λ y. inl (rw (unclaimed p (omega arith)) (omega arith)))
        (λ _. k.bodies.bare p (free_begins p low free))
        (λ y. absurd (not_waiting c heap homes n v k _ (inl (word_here c heap homes n v k p g low)) y))
        (λ i a m. let z : 0 < times i no_life.allocated = subst (λ (l : LifeState). 0 < times i l.allocated) was a in absurd (omega arith))
        (own_tells g c.words c.lives c.sets (set c.words p g) ls' c.sets p lead v.own h (own_tells_of c heap homes n v k)
        (fresh_stays c heap homes n v k p g low h refl refl (has_none p v.own.cached (omega arith))) (λ q i m. let z = ap one_if (places q i) in inl (omega arith)) (λ s q u m. let z = ap one_if (pops s q) in inl (omega arith))
        (λ s u m. let z = ap one_if (seen s) in inl (omega arith)) (λ s i q m. inl m) (λ s x y m. let z = ap one_if (look s x y) in inl (omega arith)) (λ s. let z = ap one_if (pop s) in let a = (own_tells_of c heap homes n v k).passed s in omega arith)))

  -- a span is taken, by the line of its number
  module _ (b : Span) (low : b.page < length c.words) (free : get_or c.owners b.page None ≡ None) (empty : (j : ℕ) → bit_of b.bits j ≡ false) (cycle : ℕ) (heap' : PageHeap) (region : heap'.region ≡ heap.region) (goal : heap'.goal ≡ heap.goal)
      (legal : IsJournal heap'.region heap'.goal heap'.past) (by : IsBy ((c.generation - 4) / 2) heap'.past) (past : heap'.past ≡ TakeLine cycle b.page b.pages b.class ∷ heap.past) (number : length heap.past ≡ b.life) where
    pub take_keeps : (c' : CoreState) → c' ≡ record (after_take c n b.page b.pages b.count b.class) { lock = None } → Owned c' → IsTidy c' → HasSpace c'
        → RuleOf c' heap' homes n (acts v (told_of (Takes cycle) b v.own)) (life_of (length heap.past) cycle b.page b.pages b.class ∷ k.known)
    take_keeps c' e o t r = begin_keeps b low free empty (hold b.page) v.own.pulled v.own.cache (Took b.life (TakeLine cycle b.page b.pages b.class)) refl (λ j q. refl) (λ q i. refl) (λ s. refl) (λ s x y. refl) (λ s. refl)
        (own_cache c heap homes n v k (told_of (Takes cycle) b v.own) refl refl refl) heap' region goal legal (subst (AreAllowed v.procs) (sym past) (tt, k.allowed)) by (life_of (length heap.past) cycle b.page b.pages b.class ∷ k.known)
        (cycle, inl (ap (λ (z : ℕ). life_of z cycle b.page b.pages b.class) number)) (λ s x. (x.0, inr x.1)) c' e o t r

  -- a span without objects is given back
  module _ (p pages : ℕ) (low : p < length c.words) (held : has p v.own.held ≡ true) (free : v.own.claimed ≡ None) (empty : length (life_in p c.lives).allocated ≡ 0) (size : (life_in p c.lives).pages ≡ pages) (cycle : ℕ) (heap' : PageHeap)
      (region : heap'.region ≡ heap.region) (goal : heap'.goal ≡ heap.goal) (legal : IsJournal heap'.region heap'.goal heap'.past) (by : IsBy ((c.generation - 4) / 2) heap'.past) (past : heap'.past ≡ GiveLine cycle p pages ∷ heap.past) where
    nothing : (xs : List ℕ) → length xs ≡ 0 → (i : ℕ) → times i xs ≡ 0
    nothing [] e i = refl
    nothing (x ∷ xs) e i = absurd (omega arith)

    pub give_keeps : (c' : CoreState) → c' ≡ record (after_give c n p) { lock = None } → Owned c' → IsTidy c' → HasSpace c' → RuleOf c' heap' homes n (acts v (told (Gives p pages) v.own)) (others p k.known)
    give_keeps c' e o t r =
        let h = told (Gives p pages) v.own in let g = c.generation in let have = has_times p v.own.held held in let once₁ = once c heap homes n v k p low in let less = times_erase p v.own.held have in
        let ls' = drop_life p c.lives in
        let life : (q : ℕ) → q ≢ p → life_in q ls' ≡ life_in q c.lives = (λ q d. drop_else p q c.lives d) in
        let d : CoreState = record (after_give c n p) { lock = None } in
        let kept' = kept_of d (subst Owned e o) in
        let gone : begins p ls' ≡ false = kept'.lives_fit.begin p (subst (λ (z : ℕ). p < z) (sym (length-set c.words p 0)) low) ∙ ap not (eq-eqb _ _ (word_here c heap homes n v k p 0 low)) in
        let four₁ = four c heap homes n v k in
        let lead : Leads g c.words c.lives c.sets (set c.words p 0) ls' c.sets p = record {
          words = word_else c heap homes n v k p 0 low;
          waits = λ q w. dite (ℕ_discrete q p)
              (λ s. let y : get_or (set c.words p 0) q 0 ≡ 0 = ap (λ (z : ℕ). get_or (set c.words p 0) z 0) s ∙ word_here c heap homes n v k p 0 low in absurd (omega arith))
              (λ y. (ap (λ (z : ℕ). z + 2) (sym (word_else c heap homes n v k p 0 low q y)) ∙ w, ap (λ (l : LifeState). l.class) (life q y)));
          placed = λ q i m. dite (ℕ_discrete q p)
              (λ s. let y : 0 < times i (life_in p c.lives).allocated = subst (λ (z : ℕ). 0 < times i (life_in z c.lives).allocated) s m.2 in let z = nothing (life_in p c.lives).allocated empty i in absurd (omega arith))
              (λ y. (subst (λ (z : ℕ). q < z) (sym (length-set c.words p 0)) m.0, subst (IsSettled g) (sym (word_else c heap homes n v k p 0 low q y)) m.1, subst (λ (l : LifeState). 0 < times i l.allocated) (sym (life q y)) m.2));
          empty = λ s u e. e;
          cells = λ s i q e. e;
          grow = λ s. (omega arith, omega arith);
          filled = λ s u f. f;
        } in
        let zero = only_none (not (is_claimed p v.own.claimed)) in
        subst (λ (s : CoreState). RuleOf s heap' homes n (acts v h) (others p k.known)) (sym e)
        (turned c heap homes n v k d heap' homes h (subst Owned e o) (subst IsTidy e t) (subst HasSpace e r) (sym k.unlocked) (length-set c.words p _) refl (as_own c heap homes n v k h (let_go p) refl) refl region goal legal (subst (AreAllowed v.procs) (sym past) (tt, k.allowed)) by (others p k.known) (own_cache c heap homes n v k h refl refl refl)
        p low (inl (omega arith)) k.names
        (enters c heap homes n v k _ _ h (drop_stays g c.words c.lives p empty) refl
        (λ q l x y z. let w = Rattle.sweep_laws.proofs.Naming.times_erase_le p v.own.held in dite (ℕ_discrete q p) (λ s. subst (λ (i : ℕ). 0 < times i v.own.held + times i v.own.cached) (sym s) (omega arith)) (λ y. let u = times_erase_else q p v.own.held y in omega arith))
        (λ j q. omega arith))
        lead life (λ q d. begins_drop p q c.lives d) refl
        (λ s d x. (x.0, to_others p k.known (life_of s.life x.0 s.page s.pages s.class) x.1 d)) (λ q d. refl)
        (λ q d. rw (times_erase_else q p v.own.held d) refl) (λ q d. refl)
        (λ l. let w : times p (erase p v.own.held) ≡ 0 = omega arith in let y : lends p h ≡ times p v.own.sweeping + times p v.own.cached + only (not (is_claimed p v.own.claimed)) 0 = ap (λ (z : ℕ). times p v.own.sweeping + times p v.own.cached + only (not (is_claimed p v.own.claimed)) z) w in absurd (omega arith))
        (λ y. absurd (true≢false (sym y ∙ gone)))
        (λ _. gone_now c heap homes n v k p (held_lent c heap homes n v k p held free))
        (λ y. let w = word_here c heap homes n v k p 0 low in let f = four c heap homes n v k in absurd (zero_waits (get_or (set c.words p 0) p 0) w y))
        (λ i a m. let z = nothing (life_in p c.lives).allocated empty i in absurd (omega arith))
        (own_tells g c.words c.lives c.sets (set c.words p 0) ls' c.sets p lead v.own h (own_tells_of c heap homes n v k)
        (fresh_stays c heap homes n v k p 0 low h refl refl (has_none p v.own.cached (omega arith))) (λ q i m. inl (omega arith)) (λ s q u m. inl (omega arith)) (λ s u m. inl (omega arith)) (λ s i q m. inl m) (λ s x y m. inl (omega arith)) (λ s. let a = (own_tells_of c heap homes n v k).passed s in omega arith)))
      where
        only_none : (b : Bool) → only b 0 ≡ 0
        only_none true = refl
        only_none false = refl

        zero_waits : (w : ℕ) → w ≡ 0 → IsWaiting c.generation w → ⊥
        zero_waits w e y = let f = four c heap homes n v k in
            ⊎_elim (λ (x : w + 2 ≡ c.generation). let z : ⊥ = omega arith in z) (λ (x : (w + 1 ≡ c.generation) ⊎ (w ≡ c.generation + 1)). ⊎_elim (λ (u : w + 1 ≡ c.generation). let z : ⊥ = omega arith in z) (λ (u : w ≡ c.generation + 1). let z : ⊥ = omega arith in z) x) y
