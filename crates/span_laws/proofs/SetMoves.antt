-- The steps on sets keep the rule: Claim, Fill, and both pops.
use Rattle.std.proofs.Common.{◌≡◌, ◌≢◌, ℕ, ◌+◌, ◌<◌, ◌≤◌, ◌⊎◌, inl, inr, ⊎_elim, Bool, ◌&&◌, not, eqb, eq-eqb, ne_eqb, true, false, true≢false, List, ◌∷◌, set, get_or, length, refl, ap, sym, subst, ◌∙◌, arith}
use Rattle.std.specs.Prelude.{None, Some, Option}
use mathlib.Core.Logic.{dite}
use mathlib.Core.Option.{some, some-injective}
use lib.ListN.{get_elem?}
use native.Mathlib.Decide.{ℕ_discrete}
use Rattle.std.proofs.lemmas.List.{get_or-set_same, get_or-set_other}
use Rattle.std.proofs.Math.ListN.{length-set}
use Rattle.page_alloc.specs.Heap.{PageHeap}
use Rattle.span_state.specs.declared.body.Body.{Body}
use Rattle.sweep_laws.specs.ChangesOfHands.{claim_cell, fill_cell, hold, pop_entry}
use Rattle.sweep_laws.specs.ChangesOfSets.{head_base, name_page, raise_head, raise_tail}
use Rattle.sweep_laws.specs.Changes.{after_claim, after_fill_of, after_pop_swept, after_pop_unswept}
use Rattle.sweep_laws.specs.Counts.{times}
use Rattle.sweep_laws.specs.declared.moves.Claimed.{Claimed}
use Rattle.sweep_laws.specs.Lists.{has}
use Rattle.sweep_laws.specs.Named.{begins, is_class, only}
use Rattle.sweep_laws.specs.Reading.{cell_of, class_of_set, hand_of, is_swept_set, life_in, no_set, set_of}
use Rattle.sweep_laws.specs.OwnedSets.{ClaimFits}
use Rattle.sweep_laws.specs.Owned.{Owned}
use Rattle.sweep_laws.specs.Standing.{tally}
use Rattle.sweep_laws.specs.State.{CoreState, HandState, LifeState, SetState}
use Rattle.sweep_laws.specs.Tidy.{IsTidy, HasSpace}
use Rattle.sweep_laws.proofs.MovesKept.{base_is}
use Rattle.sweep_laws.proofs.Naming.{at_low, has_times, times_erase, times_erase_else}
use Rattle.sweep_laws.proofs.Standings.{queued_list}
use Rattle.sweep_laws.proofs.Totals.{inside_at, part_le, times_end, times_end_else}
use Rattle.sweep_laws.proofs.Unpopped.{put_cell_else}
use Rattle.swept_set_laws.specs.Entered.{Entered, is_full_life, log_of}
use Rattle.swept_set_laws.specs.NamesGoOn.{put_name}
use Rattle.swept_set_laws.proofs.EnteredKept.{claim_enters, queued_by}
use Rattle.swept_set_laws.proofs.EnteredMoves.{fill_enters, pop_swept_enters}
use Rattle.swept_set_laws.proofs.EnteredRest.{unswept_enters}
use Rattle.worker_log.specs.declared.Entry.{Entry}
use Rattle.worker_log.specs.declared.Entry.TheVariants.{Popped}
use Rattle.worker_log.specs.SetNumbers.{is_full_set}
use Rattle.worker_log.specs.Entries.{is_pop, is_pop_of, is_seen_empty, many}
use Rattle.span_laws.specs.Logs.{is_look, is_placing_at}
use Rattle.span_laws.specs.declared.view.Cell.{Cell}
use Rattle.span_laws.specs.declared.said.Said.TheVariants.{Claims, Fills, PopsEntry}
use Rattle.span_laws.specs.declared.said.SaidOf.TheVariants.{Pops}
use Rattle.span_laws.specs.declared.view.Part.{Part}
use Rattle.span_laws.specs.declared.view.View.{View}
use Rattle.span_laws.specs.Bodies.{Fits, IsAway, IsHome, is_claimed, lends}
use Rattle.span_laws.specs.Rule.{Rule, logs_of}
use Rattle.span_laws.specs.Tells.{IsFilled, Tells}
use Rattle.span_laws.specs.Views.{acts, hand_state, has_cell, parts_of, span_at, span_of}
use Rattle.span_laws.specs.OwnSteps.{told, told_of}
use Rattle.std.proofs.lemmas.Bool.{eqb-true}
use Rattle.sweep_laws.proofs.NeedsMet.{both}
use Rattle.span_laws.proofs.Waiting.{queued_class}
use Rattle.span_laws.proofs.Ready.{class_is}
use Rattle.span_laws.proofs.BodiesKept.{bodies_stay}
use Rattle.page_bitmap.specs.Counts.{one_if}
use Rattle.span_laws.proofs.Parts.{alone, at_map, has3, lends-le}
use Rattle.span_laws.proofs.LifeMoves.{unclaimed}
use Rattle.span_laws.proofs.Lives.{none_here}
use Rattle.span_laws.proofs.RuleKept.{RuleOf, log_else, log_own, logs_same, moved, own_at, own_cache, part_at, turned}
use Rattle.span_laws.proofs.TellsKept.{Leads, own_tells, tells_turn}
use Rattle.span_laws.proofs.WordMoves.{as_own, held_lent, kept, lent_now, once, own_tells_of, span_else, span_here}

module _ (c : CoreState) (heap : PageHeap) (homes : List (Option Body)) (n : ℕ) (v : View) (k : Rule c heap homes n v) where
  -- a set changes, and neither words nor lives
  module _ (j : ℕ) (s' : SetState) (there : j < length c.sets) (empty : is_swept_set c.generation j ≡ false → (set_of c j).head ≡ (set_of c j).tail → s'.head ≡ s'.tail)
      (cells : (i q : ℕ) → cell_of (set_of c j) i ≡ q + 1 → cell_of s' i ≡ q + 1) (grow : ((set_of c j).head ≤ s'.head) × ((set_of c j).tail ≤ s'.tail)) (fill : is_swept_set c.generation j ≡ false → IsFilled (set_of c j) → IsFilled s') where
    set_is : (m : ℕ) → m ≢ j → get_or (set c.sets j s') m no_set ≡ get_or c.sets m no_set
    set_is m d = get_or-set_other c.sets j m s' no_set d

    set_new : get_or (set c.sets j s') j no_set ≡ s'
    set_new = get_or-set_same c.sets j s' no_set there

    pub set_leads : (p : ℕ) → Leads c.generation c.words c.lives c.sets c.words c.lives (set c.sets j s') p
    set_leads p = record {
      words = λ q d. refl;
      placed = λ q i m. m;
      waits = λ q w. (w, refl);
      empty = λ m u e. dite (ℕ_discrete m j)
          (λ z. let x : s'.head ≡ s'.tail = empty (subst (λ (y : ℕ). is_swept_set c.generation y ≡ false) z u) (subst (λ (y : ℕ). (set_of c y).head ≡ (set_of c y).tail) z e) in
          subst (λ (y : ℕ). (get_or (set c.sets j s') y no_set).head ≡ (get_or (set c.sets j s') y no_set).tail) (sym z) (subst (λ (y : SetState). y.head ≡ y.tail) (sym set_new) x))
          (λ d. subst (λ (y : SetState). y.head ≡ y.tail) (sym (set_is m d)) e);
      cells = λ m i q e. dite (ℕ_discrete m j)
          (λ z. subst (λ (y : ℕ). cell_of (get_or (set c.sets j s') y no_set) i ≡ q + 1) (sym z) (subst (λ (y : SetState). cell_of y i ≡ q + 1) (sym set_new) (cells i q (subst (λ (y : ℕ). cell_of (set_of c y) i ≡ q + 1) z e))))
          (λ d. subst (λ (y : SetState). cell_of y i ≡ q + 1) (sym (set_is m d)) e);
      filled = λ m u f. dite (ℕ_discrete m j)
          (λ z. let x : IsFilled s' = fill (subst (λ (y : ℕ). is_swept_set c.generation y ≡ false) z u) (subst (λ (y : ℕ). IsFilled (set_of c y)) z f) in
          subst (λ (y : ℕ). IsFilled (get_or (set c.sets j s') y no_set)) (sym z) (subst IsFilled (sym set_new) x))
          (λ d. subst IsFilled (sym (set_is m d)) f);
      grow = λ m. dite (ℕ_discrete m j)
          (λ z. subst (λ (y : ℕ). ((set_of c y).head ≤ (get_or (set c.sets j s') y no_set).head) × ((set_of c y).tail ≤ (get_or (set c.sets j s') y no_set).tail)) (sym z)
          (subst (λ (y : SetState). ((set_of c j).head ≤ y.head) × ((set_of c j).tail ≤ y.tail)) (sym set_new) grow))
          (λ d. subst (λ (y : SetState). ((set_of c m).head ≤ y.head) × ((set_of c m).tail ≤ y.tail)) (sym (set_is m d)) (omega arith, omega arith));
    }

  -- a pop raises the head of its set
  pop_passed : (j : ℕ) (s' : SetState) → j < length c.sets → s'.head ≡ (set_of c j).head + 1 → (p m : ℕ) → many (is_pop m) (Popped j p ∷ v.own.log) ≤ (get_or (set c.sets j s') m no_set).head
  pop_passed j s' there raised p m = let t = (own_tells_of c heap homes n v k).passed m in dite (ℕ_discrete m j)
      (λ e. subst (λ (y : ℕ). many (is_pop y) (Popped j p ∷ v.own.log) ≤ (get_or (set c.sets j s') y no_set).head) (sym e)
      (let u = subst (λ (y : ℕ). many (is_pop y) v.own.log ≤ (get_or c.sets y no_set).head) e t in rw (eq-eqb j j refl, get_or-set_same c.sets j s' no_set there) (omega arith)))
      (λ d. rw (ne_eqb j m (λ z. d (sym z)), get_or-set_other c.sets j m s' no_set d) (omega arith))

  -- what the own part tells stays where its cached and fresh spans do, and words and lives
  module _ (h : Part) (fresh : h.fresh ≡ v.own.fresh) (cached : h.cached ≡ v.own.cached) (log : (q i : ℕ) → 0 < many (is_placing_at q i) h.log → 0 < many (is_placing_at q i) v.own.log)
      (pops : (s q : ℕ) → is_swept_set c.generation s ≡ false → 0 < many (is_pop_of s q) h.log → (0 < many (is_pop_of s q) v.own.log) ⊎ (get_or c.words q 0 + 2 ≡ c.generation → (life_in q c.lives).class ≡ class_of_set s))
      (seen : (s : ℕ) → 0 < many (is_seen_empty s) h.log → 0 < many (is_seen_empty s) v.own.log) (look : (s x y : ℕ) → 0 < many (is_look s x y) h.log → 0 < many (is_look s x y) v.own.log) (read : h.read ≡ v.own.read) where
    pub set_tells : (ss' : List SetState) (p : ℕ) → Leads c.generation c.words c.lives c.sets c.words c.lives ss' p → ((s : ℕ) → many (is_pop s) h.log ≤ (get_or ss' s no_set).head) → Tells c.generation c.words c.lives ss' h
    set_tells ss' p lead pop = own_tells c.generation c.words c.lives c.sets c.words c.lives ss' p lead v.own h (own_tells_of c heap homes n v k)
        (λ q. ap (has q) fresh ∙ (own_tells_of c heap homes n v k).fresh q ∙ ap (λ (l : List ℕ). has q l && eqb (get_or c.words q 0) (c.generation + 3)) (sym cached))
        (λ q i m. inl (log q i m)) pops (λ s u m. inl (seen s m)) (λ s i q m. inl (subst (λ (l : List Cell). has_cell s i q l ≡ true) read m)) (λ s x y m. inl (look s x y m)) pop

  -- an index is claimed for a span that the worker holds, and its body comes home
  module _ (b : Body) (j : ℕ) (there : j < 544) (part : is_swept_set c.generation j ≡ true) (held : has b.page v.own.held ≡ true) (free : v.own.claimed ≡ None) (lent : span_at b.page v.own.spans ≡ Some (span_of b)) (low : b.page < length c.words)
      (class : is_class b.page (class_of_set j) c.lives ≡ true) (used : 0 < length (life_in b.page c.lives).allocated) (full : is_full_set j ≡ is_full_life (life_in b.page c.lives)) (unpopped : many (is_pop_of j b.page) v.own.log ≡ 0) where
    low_set : j < length c.sets
    low_set = let x = k.sets in omega arith

    pub claim_keeps : (c' : CoreState) → c' ≡ after_claim c n j b.page → Owned c' → IsTidy c' → HasSpace c' → RuleOf c' heap (set homes b.page (Some b)) n (acts v (told (Claims j (set_of c j).tail b.page) v.own)) k.known
    claim_keeps c' e o t r =
        let p = b.page in let s = set_of c j in let h = told (Claims j s.tail p) v.own in let g = c.generation in let have = has_times p v.own.held held in let once₁ = once c heap homes n v k p low in
        let d : CoreState = after_claim c n j p in
        let lead = set_leads j (raise_tail s) low_set (λ u x. absurd (true≢false (sym part ∙ u))) (λ i q x. x) (omega arith, omega arith) (λ u. absurd (true≢false (sym part ∙ u))) p in
        let was = lent_now c heap homes n v k p (held_lent c heap homes n v k p held free) in
        let same : was.0 ≡ span_of b = some_same was.0 (span_of b) (sym was.1 ∙ lent) in
        let fits : Fits k.known c.lives p (span_of b) = subst (Fits k.known c.lives p) same was.2 in
        let entered = claim_enters g c.words c.owners c.lives c.sets c.hands (kept c heap homes n v k) (logs_of n v) k.names k.entered n (hand_state v.own) (own_at c heap homes n v k) p low have free j s (at_low c.sets j no_set low_set) part class used full
        (ap (many (is_pop_of j p)) (log_own c heap homes n v k v.own) ∙ unpopped) in
        let claimed : is_claimed p h.claimed ≡ true = eq-eqb p p refl in
        subst (λ (y : CoreState). RuleOf y heap (set homes p (Some b)) n (acts v h) k.known) (sym e)
        (turned c heap homes n v k d heap (set homes p (Some b)) h (subst Owned e o) (subst IsTidy e t) (subst HasSpace e r) refl refl refl (as_own c heap homes n v k h (claim_cell j s.tail p) refl) (length-set c.sets j _) refl refl k.legal k.allowed k.cycle k.known (own_cache c heap homes n v k h refl refl refl)
        p low (inl (omega arith)) (put_name k.names j s.tail p)
        (subst (λ (l : List (List Entry)). Entered g (length c.words) c.words c.lives (set c.sets j (raise_tail s)) (set c.hands n (hand_state h)) l (put_name k.names j s.tail p)) same_logs entered)
        lead (λ q x. refl) (λ q x. refl) (length-set homes p (Some b)) (λ z x y. y) (λ q x. get_or-set_other homes p q (Some b) None x)
        (λ q x. ap (λ (y : Bool). times q v.own.sweeping + times q v.own.cached + only (not y) (times q v.own.held)) (ne_eqb p q (λ z. x (sym z)) ∙ sym (ap (is_claimed q) free))) (λ q x. refl)
        (λ l. absurd (let z : lends p h ≡ times p v.own.sweeping + times p v.own.cached + 0 = ap (λ (y : Bool). times p v.own.sweeping + times p v.own.cached + only (not y) (times p v.own.held)) claimed in omega arith))
        (λ y. inr (b, get_or-set_same homes p (Some b) None (let z = k.bodies.many in omega arith), fits))
        (λ z. ⊎_elim
        (λ (l : 0 < lends p h). absurd (let y : lends p h ≡ times p v.own.sweeping + times p v.own.cached + 0 = ap (λ (y : Bool). times p v.own.sweeping + times p v.own.cached + only (not y) (times p v.own.held)) claimed in omega arith))
        (λ (y : begins p c.lives ≡ false). absurd (let w = ap (λ (l : LifeState). length l.allocated) (none_here p c.lives y) in omega arith)) z)
        (λ y. k.marks.kept p low y) (λ i a m. a)
        (set_tells h refl refl (λ q i m. m) (λ s q u m. inl m) (λ q m. m) (λ s x y m. m) refl (set c.sets j (raise_tail s)) p lead (λ m. let a = (own_tells_of c heap homes n v k).passed m in let b = (lead.grow m).0 in omega arith)))
      where
        some_same : {A : Type 0} (x y : A) → Some x ≡ Some y → x ≡ y
        some_same x y z = cc

        same_logs : logs_of n v ≡ logs_of n (acts v (told (Claims j (set_of c j).tail b.page) v.own))
        same_logs = logs_same c heap homes n v k (told (Claims j (set_of c j).tail b.page) v.own) refl

  -- the cell of the own claim is filled, and the worker lets go of the span
  module _ (d : Claimed) (claimed : v.own.claimed ≡ Some d) where
    mine : ClaimFits c.generation (length c.words) c.lives c.sets (hand_state v.own) d
    mine = (kept c heap homes n v k).sets_fit.claim n (hand_state v.own) (own_at c heap homes n v k) d claimed

    claim_set : d.set < length c.sets
    claim_set = inside_at c.sets d.set mine.set_at mine.is_set

    set_at_is : mine.set_at ≡ set_of c d.set
    set_at_is = some-injective mine.set_at (set_of c d.set) (sym mine.is_set ∙ at_low c.sets d.set no_set claim_set)

    -- nobody has the body, so it is at home
    filled_home : begins d.page c.lives ≡ true → IsHome k.known c.lives homes d.page
    filled_home g = ⊎_elim away (λ (x : IsHome k.known c.lives homes d.page). x) (k.bodies.home d.page mine.is_page g)
      where
        none : lends d.page v.own ≡ 0
        none = let o = once c heap homes n v k d.page mine.is_page in let f = mine.held in
            let z : lends d.page v.own ≡ times d.page v.own.sweeping + times d.page v.own.cached + 0 =
            ap (λ (y : Option Claimed). times d.page v.own.sweeping + times d.page v.own.cached + only (not (is_claimed d.page y)) (times d.page v.own.held)) claimed
            ∙ ap (λ (y : Bool). times d.page v.own.sweeping + times d.page v.own.cached + only (not y) (times d.page v.own.held)) (eq-eqb d.page d.page refl) in omega arith

        away : IsAway (parts_of n v) d.page → IsHome k.known c.lives homes d.page
        away a = dite (ℕ_discrete a.0 n)
            (λ e. let s : a.1 ≡ v.own = some-injective a.1 v.own (sym a.2 ∙ ap (get_elem? (parts_of n v)) e ∙ part_at c heap homes n v k) in
            let l : 0 < lends d.page v.own = subst (λ (y : Part). 0 < lends d.page y) s a.3 in absurd (let z = none in omega arith))
            (λ e. let f = mine.held in let z = alone c k.owned (parts_of n v) k.hands d.page mine.is_page n v.own (part_at c heap homes n v k) (omega arith) a.0 a.1 e a.2 in let y = lends-le d.page a.1 in let l = a.3 in absurd (omega arith))

    pub fill_keeps : (c' : CoreState) → c' ≡ after_fill_of (Some d) c n → Owned c' → IsTidy c' → HasSpace c' → RuleOf c' heap homes n (acts v (told (Fills d.set d.page) v.own)) k.known
    fill_keeps c' e o t r =
        let p = d.page in let s = set_of c d.set in let h = told (Fills d.set p) v.own in let g = c.generation in let low = mine.is_page in let have = mine.held in let once₁ = once c heap homes n v k p low in
        let less = times_erase p v.own.held have in
        let d' : CoreState = after_fill_of (Some d) c n in
        let blank : cell_of s d.index ≡ 0 = subst (λ (y : SetState). cell_of y d.index ≡ 0) set_at_is mine.blank in
        let lead = set_leads d.set (name_page d.index p s) claim_set (λ u x. absurd (true≢false (sym mine.is_swept ∙ u)))
        (λ i q x. dite (ℕ_discrete i d.index) (λ z. let y : cell_of s d.index ≡ q + 1 = subst (λ (w : ℕ). cell_of s w ≡ q + 1) z x in absurd (omega arith)) (λ z. put_cell_else s.cells d.index i (p + 1) z ∙ x)) (omega arith, omega arith) (λ u. absurd (true≢false (sym mine.is_swept ∙ u))) p in
        let entered = fill_enters g c.words c.owners c.lives c.sets c.hands (kept c heap homes n v k) (logs_of n v) k.names k.entered n (hand_state v.own) (own_at c heap homes n v k) d claimed s (at_low c.sets d.set no_set claim_set) in
        subst (λ (y : CoreState). RuleOf y heap homes n (acts v h) k.known) (sym e)
        (turned c heap homes n v k d' heap homes h (subst Owned e o) (subst IsTidy e t) (subst HasSpace e r) refl refl refl (as_own c heap homes n v k h (fill_cell p) refl) (length-set c.sets d.set _) refl refl k.legal k.allowed k.cycle k.known (own_cache c heap homes n v k h refl refl refl)
        p low (inl (omega arith)) k.names (log_entered h (λ j q. omega arith) entered) lead (λ q x. refl) (λ q x. refl) refl (λ z x y. y) (λ q x. refl)
        (λ q x. rw (times_erase_else q p v.own.held x)
        (sym (ap (λ (y : Option Claimed). times q v.own.sweeping + times q v.own.cached + only (not (is_claimed q y)) (times q v.own.held)) claimed ∙ ap (λ (y : Bool). times q v.own.sweeping + times q v.own.cached + only (not y) (times q v.own.held)) (ne_eqb p q (λ z. x (sym z))))))
        (λ q x. refl) (λ l. absurd (omega arith)) (λ y. inr (filled_home y)) (λ z. ⊎_elim (λ (l : 0 < lends p h). absurd (omega arith)) (λ (y : begins p c.lives ≡ false). k.bodies.bare p y) z)
        (λ y. k.marks.kept p low y) (λ i a m. a)
        (set_tells h refl refl (λ q i m. omega arith) (λ s q u m. inl (omega arith)) (λ q m. omega arith) (λ s x y m. omega arith) refl (set c.sets d.set (name_page d.index p s)) p lead (λ m. let a = (own_tells_of c heap homes n v k).passed m in let b = (lead.grow m).0 in omega arith)))
      where
        -- the logs may gain entries that are no pops
        log_entered : (h : Part) → ((j q : ℕ) → many (is_pop_of j q) h.log ≡ many (is_pop_of j q) v.own.log) → {ws : List ℕ} {ls : List LifeState} {ss : List SetState} {hs : List HandState}
            → Entered c.generation (length c.words) ws ls ss hs (logs_of n v) k.names → Entered c.generation (length c.words) ws ls ss hs (logs_of n (acts v h)) k.names
        log_entered h pops e = record {
          sets_name = e.sets_name;
          claim = e.claim;
          told = λ m x a j s b part p l. e.told m x a j s b part p (let z = pops_all h pops m j p in omega arith);
          known = λ m x a j s b part i l held. ⊎_elim (λ (z : 0 < many (is_pop_of j (k.names j i)) (log_of (logs_of n v) m)). inl (let w = pops_all h pops m j (k.names j i) in omega arith)) (λ z. inr z) (e.known m x a j s b part i l held);
        }
          where
            pops_all : (h : Part) → ((j q : ℕ) → many (is_pop_of j q) h.log ≡ many (is_pop_of j q) v.own.log) → (m j q : ℕ) → many (is_pop_of j q) (log_of (logs_of n (acts v h)) m) ≡ many (is_pop_of j q) (log_of (logs_of n v) m)
            pops_all h pops m j q = dite (ℕ_discrete m n)
                (λ s. subst (λ (x : ℕ). many (is_pop_of j q) (log_of (logs_of n (acts v h)) x) ≡ many (is_pop_of j q) (log_of (logs_of n v) x)) (sym s)
                (ap (many (is_pop_of j q)) (log_own c heap homes n v k h) ∙ pops j q ∙ sym (ap (many (is_pop_of j q)) (log_own c heap homes n v k v.own))))
                (λ d. ap (many (is_pop_of j q)) (log_else c heap homes n v k h m d))

  -- the page at the head of a swept set is popped, with the body that was at home
  module _ (b : Body) (j : ℕ) (there : j < 544) (part : is_swept_set c.generation j ≡ true) (more : (set_of c j).head < (set_of c j).tail) (filled : cell_of (set_of c j) (set_of c j).head ≡ b.page + 1) (low : b.page < length c.words)
      (fits : Fits k.known c.lives b.page (span_of b)) where
    pop_set : j < length c.sets
    pop_set = let x = k.sets in omega arith

    pub pop_keeps : (c' : CoreState) → c' ≡ after_pop_swept c n j → Owned c' → IsTidy c' → HasSpace c' → RuleOf c' heap (set homes b.page None) n (acts v (told_of (Pops j) (span_of b) v.own)) k.known
    pop_keeps c' e o t r =
        let p = b.page in let s = set_of c j in let h = told_of (Pops j) (span_of b) v.own in let g = c.generation in
        let base : head_base c j ≡ p = base_is (length c.words) (cell_of s s.head) p filled low in
        let queued = queued_by g c.words c.owners c.lives c.sets c.hands (kept c heap homes n v k) (logs_of n v) k.names k.entered n (hand_state v.own) (own_at c heap homes n v k) j s (at_low c.sets j no_set pop_set) part s.head (omega arith) more p filled in
        let single = queued_list g (tally g c.words c.lives c.sets c.hands p) ((kept c heap homes n v k).page p low).standing queued in
        let a₁ = part_le (λ (y : HandState). times p y.sweeping) c.hands n (hand_state v.own) (own_at c heap homes n v k) in
        let a₂ = part_le (λ (y : HandState). times p y.held) c.hands n (hand_state v.own) (own_at c heap homes n v k) in
        let a₃ = part_le (λ (y : HandState). times p y.cached) c.hands n (hand_state v.own) (own_at c heap homes n v k) in
        let z₂ = single.2 in let grows = times_end p v.own.held in
        let d : CoreState = after_pop_swept c n j in
        let lead = set_leads j (raise_head s) pop_set (λ u x. absurd (true≢false (sym part ∙ u))) (λ i q x. x) (omega arith, omega arith) (λ u. absurd (true≢false (sym part ∙ u))) p in
        let entered = pop_swept_enters g c.words c.owners c.lives c.sets c.hands (kept c heap homes n v k) (logs_of n v) k.names k.entered n (hand_state v.own) (own_at c heap homes n v k) j s (at_low c.sets j no_set pop_set) part more p low filled (logs_of n (acts v h))
        (λ m q. let x = ap (many (is_pop_of m q)) (log_own c heap homes n v k h) in let y = ap (many (is_pop_of m q)) (log_own c heap homes n v k v.own) in omega arith)
        (λ m x. log_else c heap homes n v k h m x) in
        subst (λ (y : CoreState). RuleOf y heap (set homes p None) n (acts v h) k.known) (sym e)
        (turned c heap homes n v k d heap (set homes p None) h (subst Owned e o) (subst IsTidy e t) (subst HasSpace e r) refl refl refl
        (ap (λ (q : ℕ). set c.hands n (hold q (hand_of c n))) base ∙ as_own c heap homes n v k h (hold p) refl) (length-set c.sets j _) refl refl k.legal k.allowed k.cycle k.known (own_cache c heap homes n v k h refl refl refl)
        p low (inr (omega arith)) k.names entered lead (λ q x. refl) (λ q x. refl) (length-set homes p None) (λ z x y. y) (λ q x. get_or-set_other homes p q None None x)
        (λ q x. rw (times_end_else q p v.own.held x) refl) (λ q x. span_else (span_of b) v.own.spans q x)
        (λ l. (span_of b, span_here (span_of b) v.own.spans, fits))
        (λ y. inl (rw (unclaimed c heap homes n v k p (omega arith)) (omega arith)))
        (λ _. get_or-set_same homes p None None (let z = k.bodies.many in omega arith))
        (λ y. k.marks.kept p low y) (λ i a m. a)
        (set_tells h refl refl (λ q i m. omega arith) swept_pop (λ q m. omega arith) (λ s x y m. omega arith) refl (set c.sets j (raise_head s)) p lead (pop_passed j (raise_head s) pop_set refl p)))
      where
        -- it is no pop from an unswept set
        swept_pop : (s q : ℕ) → is_swept_set c.generation s ≡ false → 0 < one_if (eqb j s && eqb b.page q) + many (is_pop_of s q) v.own.log
            → (0 < many (is_pop_of s q) v.own.log) ⊎ (get_or c.words q 0 + 2 ≡ c.generation → (life_in q c.lives).class ≡ class_of_set s)
        swept_pop s q u m = inl (let z = ap (λ (x : Bool). one_if (x && eqb b.page q)) (ne_eqb j s (λ e. true≢false (sym part ∙ ap (is_swept_set c.generation) e ∙ u))) in omega arith)

  -- no part names a page beyond the region
  beyond : (m : ℕ) (x : Part) → get_elem? (parts_of n v) m ≡ some x → has3 (length c.words) x ≡ 0
  beyond m x a = let t = k.tidy.hands m (hand_state x) (ap (λ (l : List HandState). get_elem? l m) k.hands ∙ at_map hand_state (parts_of n v) m x a) (length c.words) (omega arith) in
      let s₁ = t.sweeping in let s₂ = t.held in let s₃ = t.cached in omega arith

  -- the entry at the head of an unswept set is popped
  module _ (j p : ℕ) (there : j < 544) (part : is_swept_set c.generation j ≡ false) (more : (set_of c j).head < (set_of c j).tail) (filled : cell_of (set_of c j) (set_of c j).head ≡ p + 1) (low : p < length c.words) where
    pub entry_keeps : (c' : CoreState) → c' ≡ after_pop_unswept c n j → Owned c' → IsTidy c' → HasSpace c' → RuleOf c' heap homes n (acts v (told (PopsEntry j p) v.own)) k.known
    entry_keeps c' e o t r =
        let s = set_of c j in let h = told (PopsEntry j p) v.own in let g = c.generation in
        let low_set : j < length c.sets = (let x = k.sets in omega arith) in
        let base : head_base c j ≡ p = base_is (length c.words) (cell_of s s.head) p filled low in
        let d : CoreState = after_pop_unswept c n j in
        let lead = set_leads j (raise_head s) low_set (λ u x. absurd (omega arith)) (λ i q x. x) (omega arith, omega arith) (λ u f. f) (length c.words) in
        subst (λ (y : CoreState). RuleOf y heap homes n (acts v h) k.known) (sym e)
        (moved c heap homes n v k d heap homes h (subst Owned e o) (subst IsTidy e t) (subst HasSpace e r) refl refl refl
        (ap (λ (q : ℕ). set c.hands n (pop_entry q (hand_of c n))) base ∙ as_own c heap homes n v k h (pop_entry p) refl) (length-set c.sets j _) refl refl k.legal k.allowed k.cycle k.known (own_cache c heap homes n v k h refl refl refl) k.names
        (unswept_enters g c.words c.owners c.lives c.sets c.hands (kept c heap homes n v k) (logs_of n v) k.names k.entered j (raise_head s) part n (hand_state v.own) (hand_state h) (own_at c heap homes n v k) refl refl refl (logs_of n (acts v h)) pops)
        (bodies_stay (length c.words) k.known c.lives homes (parts_of n v) k.bodies n v.own (part_at c heap homes n v k) h (λ q. refl) refl) k.marks
        (tells_turn g c.words c.lives c.sets c.words c.lives (set c.sets j (raise_head s)) (length c.words) lead (parts_of n v) n h k.tells (λ m x y z. beyond m x z)
        (set_tells h refl refl (λ q i m. omega arith) (λ s q u m. entry_pop s q m (eqb j s && eqb p q) refl) (λ q m. omega arith) (λ s x y m. omega arith) refl (set c.sets j (raise_head s)) (length c.words) lead (pop_passed j (raise_head s) low_set refl p))))
      where
        -- the page of the entry, where it waits, is of the set's class
        of_class : get_or c.words p 0 + 2 ≡ c.generation → (life_in p c.lives).class ≡ class_of_set j
        of_class w = class_is p (class_of_set j) c.lives (queued_class c.generation c.words c.owners c.lives c.sets c.hands (kept c heap homes n v k) p low j (set_of c j)
            (at_low c.sets j no_set (let x = k.sets in omega arith)) part more filled w)

        entry_pop : (s q : ℕ) → 0 < one_if (eqb j s && eqb p q) + many (is_pop_of s q) v.own.log → (x : Bool) → (eqb j s && eqb p q) ≡ x
            → (0 < many (is_pop_of s q) v.own.log) ⊎ (get_or c.words q 0 + 2 ≡ c.generation → (life_in q c.lives).class ≡ class_of_set s)
        entry_pop s q m false e = inl (let z = ap one_if e in omega arith)
        entry_pop s q m true e = let t = both (eqb j s) (eqb p q) e in
            inr (subst (λ (z : ℕ × ℕ). get_or c.words z.1 0 + 2 ≡ c.generation → (life_in z.1 c.lives).class ≡ class_of_set z.0) (λ i. (eqb-true j s t.0 i, eqb-true p q t.1 i)) of_class)

        pops : (m i q : ℕ) → is_swept_set c.generation i ≡ true → many (is_pop_of i q) (log_of (logs_of n (acts v (told (PopsEntry j p) v.own))) m) ≡ many (is_pop_of i q) (log_of (logs_of n v) m)
        pops m i q sw = dite (ℕ_discrete m n)
            (λ s. subst (λ (x : ℕ). many (is_pop_of i q) (log_of (logs_of n (acts v (told (PopsEntry j p) v.own))) x) ≡ many (is_pop_of i q) (log_of (logs_of n v) x)) (sym s)
            (ap (many (is_pop_of i q)) (log_own c heap homes n v k (told (PopsEntry j p) v.own)) ∙ ap (λ (b : Bool). one_if (b && eqb p q) + many (is_pop_of i q) v.own.log) (ne_eqb j i (λ z. true≢false (sym sw ∙ ap (is_swept_set c.generation) (sym z) ∙ part)))
            ∙ (omega arith) ∙ sym (ap (many (is_pop_of i q)) (log_own c heap homes n v k v.own))))
            (λ d. ap (many (is_pop_of i q)) (log_else c heap homes n v k (told (PopsEntry j p) v.own) m d))
