-- What calls need and tell, from the rule.
use Rattle.std.proofs.Common.{◌≡◌, ℕ, suc, ◌+◌, ◌<◌, ◌≤◌, ◌⊎◌, inl, inr, ⊎_elim, Bool, ◌||◌, ◌&&◌, not, eqb, eq-eqb, ne_eqb, true, false, true≢false, List, [], ◌∷◌, length, get_or, refl, ap, sym, subst, ◌∙◌, arith, lt-ltb}
use Rattle.std.specs.Prelude.{None, Some, Option}
use Rattle.std.specs.Option.{is_some}
use mathlib.Core.Logic.{dite}
use mathlib.Core.Option.{some}
use lib.ListN.{get_elem?}
use native.Mathlib.Decide.{ℕ_discrete, dec_le}
use Rattle.size_classes.specs.declared.TheConstants.{MAX_PAGES}
use Rattle.page_alloc.specs.Heap.{PageHeap}
use Rattle.page_bitmap.specs.Counts.{one_if}
use Rattle.span_state.specs.Bits.{HasFree}
use Rattle.span_state.specs.Spans.{allocated}
use Rattle.span_state.specs.declared.body.Body.{Body}
use Rattle.sweep_laws.specs.ChangesOfLives.{marks_at}
use Rattle.sweep_laws.specs.Counts.{times}
use Rattle.sweep_laws.specs.declared.moves.Claimed.{Claimed}
use Rattle.sweep_laws.specs.Lists.{has, least_outside}
use Rattle.sweep_laws.specs.Named.{begins, is_class}
use Rattle.sweep_laws.specs.Reading.{cell_of, class_of_set, is_swept_set, life_in, no_set, set_of}
use Rattle.sweep_laws.specs.NeedsOfRange.{refusal}
use Rattle.sweep_laws.specs.NeedsOfPages.{is_holder}
use Rattle.sweep_laws.specs.Needs.{allocate_needs, claim_needs, fill_needs, pop_unswept_needs}
use Rattle.sweep_laws.specs.Standing.{tally}
use Rattle.sweep_laws.specs.State.{CoreState, HandState, LifeState}
use Rattle.sweep_laws.specs.OwnedLives.{ObjectsFit}
use Rattle.sweep_laws.proofs.LivesChange.{all_at}
use Rattle.sweep_laws.proofs.Naming.{at_low, has_times, times_has}
use Rattle.sweep_laws.proofs.NeedsMet.{none_refuses}
use Rattle.sweep_laws.proofs.Standings.{held_list, queued_list, unswept_word}
use Rattle.sweep_laws.proofs.Totals.{part_le}
use Rattle.swept_set_laws.specs.Entered.{IsEntry, IsSettled, is_full_life}
use Rattle.swept_set_laws.proofs.EnteredKept.{claim_room, queued_by}
use Rattle.worker_log.specs.declared.Entry.{Entry}
use Rattle.worker_log.specs.declared.Entry.TheVariants.{Looked, LookedEmptyCell, Popped, Pushed, Swept, Took, Missed, Gave, Allocated, Found, Read, Added, Pulled, NoPage, Cut as CutEntry, NoCut, Settled}
use Rattle.worker_log.specs.SetNumbers.{is_full_set}
use Rattle.worker_log.specs.Entries.{is_placing_in, is_pop_of, many}
use Rattle.span_laws.specs.BodyAsks.{HasMarked}
use Rattle.span_laws.specs.Asks.{HasBody, IsApart, IsUntouched, MayPlace, mine}
use Rattle.span_laws.specs.Answers.{IsAhead, IsOfSet}
use Rattle.span_laws.specs.Bodies.{Fits, IsAway, IsHome, lends}
use Rattle.span_laws.specs.Logs.{is_look, is_placing_at}
use Rattle.span_laws.specs.Rule.{Rule, logs_of}
use Rattle.span_laws.specs.Views.{hand_state, parts_of, span_of}
use Rattle.span_laws.specs.declared.view.Part.{Part}
use Rattle.span_laws.specs.declared.view.View.{View}
use Rattle.span_laws.proofs.Lives.{full_life, least_free, marks_has}
use Rattle.span_laws.proofs.LifeMoves.{begin_at}
use Rattle.span_laws.proofs.Parts.{has3, has_none, lends-le, nobodys}
use Rattle.span_laws.proofs.Ready.{all_in, class_found, class_is, first_in, free_in, has_room, is_full, life_found, some_in}
use Rattle.span_laws.proofs.RuleKept.{low_number, log_own, own_at, own_hand, own_never, part_at}
use Rattle.span_laws.proofs.WordMoves.{cached_lent, four, held_lent, kept, lent_now}

some_same : {A : Type 0} (a b : A) → Some a ≡ Some b → a ≡ b
some_same a b e = cc

-- a log that places in a page places at an index of it
pub some_index : (p : ℕ) (log : List Entry) → 0 < many (is_placing_in p) log → (i : ℕ) × (0 < many (is_placing_at p i) log)
some_index p [] l = absurd (omega arith)
some_index p (Allocated a ∷ log) l = dite (ℕ_discrete a.page p)
    (λ e. (a.index, let z = ap one_if (let y : (eqb a.page p && eqb a.index a.index) ≡ true = rw (eq-eqb a.page p e, eq-eqb a.index a.index refl) refl in y) in omega arith))
    (λ d. let r = some_index p log (let z = ap one_if (ne_eqb a.page p d) in omega arith) in (r.0, let z = r.1 in omega arith))
some_index p (Swept s ∷ log) l = let r = some_index p log (omega arith) in (r.0, let z = r.1 in omega arith)
some_index p (Looked s h t ∷ log) l = let r = some_index p log (omega arith) in (r.0, let z = r.1 in omega arith)
some_index p (LookedEmptyCell s i ∷ log) l = let r = some_index p log (omega arith) in (r.0, let z = r.1 in omega arith)
some_index p (Pulled number line ∷ log) l = let r = some_index p log (omega arith) in (r.0, let z = r.1 in omega arith)
some_index p (NoPage ∷ log) l = let r = some_index p log (omega arith) in (r.0, let z = r.1 in omega arith)
some_index p (CutEntry page pages class ∷ log) l = let r = some_index p log (omega arith) in (r.0, let z = r.1 in omega arith)
some_index p (NoCut pages left ∷ log) l = let r = some_index p log (omega arith) in (r.0, let z = r.1 in omega arith)
some_index p (Settled number ∷ log) l = let r = some_index p log (omega arith) in (r.0, let z = r.1 in omega arith)
some_index p (Popped s q ∷ log) l = let r = some_index p log (omega arith) in (r.0, let z = r.1 in omega arith)
some_index p (Pushed s q ∷ log) l = let r = some_index p log (omega arith) in (r.0, let z = r.1 in omega arith)
some_index p (Took m x ∷ log) l = let r = some_index p log (omega arith) in (r.0, let z = r.1 in omega arith)
some_index p (Missed m x ∷ log) l = let r = some_index p log (omega arith) in (r.0, let z = r.1 in omega arith)
some_index p (Gave q m ∷ log) l = let r = some_index p log (omega arith) in (r.0, let z = r.1 in omega arith)
some_index p (Found q w ∷ log) l = let r = some_index p log (omega arith) in (r.0, let z = r.1 in omega arith)
some_index p (Read w x ∷ log) l = let r = some_index p log (omega arith) in (r.0, let z = r.1 in omega arith)
some_index p (Added w x ∷ log) l = let r = some_index p log (omega arith) in (r.0, let z = r.1 in omega arith)

module _ (c : CoreState) (heap : PageHeap) (homes : List (Option Body)) (n : ℕ) (v : View) (k : Rule c heap homes n v) where
  low_of : (p : ℕ) (f : HandState → List ℕ) → (length c.words ≤ p → times p (f (hand_state v.own)) ≡ 0) → has p (f (hand_state v.own)) ≡ true → p < length c.words
  low_of p f none h = dite (dec_le (suc p) (length c.words)) (λ l. omega arith) (λ d. let z = none (omega arith) in let t = has_times p (f (hand_state v.own)) h in absurd (omega arith))

  -- a page whose word is not settled: the own log has no pop of it from a swept set, and no placing in it
  pub untouched : (p : ℕ) → p < length c.words → (IsSettled c.generation (get_or c.words p 0) → ⊥) → IsUntouched v.generation v.own p
  untouched p low none = record {
    pops = λ j below part'. let part = subst (λ (g : ℕ). is_swept_set g j ≡ true) k.generation part' in
        dite (dec_le (many (is_pop_of j p) v.own.log) 0) (λ z. omega arith)
        (λ z. let s = at_low c.sets j no_set (let x = k.sets in omega arith) in let o = ap (many (is_pop_of j p)) (log_own c heap homes n v k v.own) in
        let t = k.entered.told n (hand_state v.own) (own_at c heap homes n v k) j (get_or c.sets j no_set) s part p (omega arith) in
        let m = k.entered.sets_name j (get_or c.sets j no_set) s part in
        let r = m.entry t.0 (let x = t.1 in let y = k.owned.sets.order j (get_or c.sets j no_set) s in omega arith) in
        absurd (none (subst (λ (q : ℕ). IsSettled c.generation (get_or c.words q 0)) t.2 r.word)));
    placings = dite (dec_le (many (is_placing_in p) v.own.log) 0) (λ z. omega arith)
        (λ z. let i = some_index p v.own.log (omega arith) in absurd (none ((k.tells n v.own (part_at c heap homes n v k)).placed p i.0 i.1).1));
  }

  -- head and tail of a set are not before those that the own log tells
  pub ahead : (j head tail : ℕ) → j < 544 → head ≡ (set_of c j).head → tail ≡ (set_of c j).tail → IsAhead j head tail v.own.log
  ahead j head tail low e f = record {
    order = (let o = k.owned.sets.order j (set_of c j) (at_low c.sets j no_set (let x = k.sets in omega arith)) in omega arith);
    grown = λ h t m. let g = (k.tells n v.own (part_at c heap homes n v k)).grown j h t m in let a = g.0 in let b = g.1 in (omega arith, omega arith);
    passed = let g = (k.tells n v.own (part_at c heap homes n v k)).passed j in omega arith;
  }

  -- a cell of an unswept set is filled below a tail that was seen
  pub seen_filled : (j i : ℕ) → is_swept_set c.generation j ≡ false → (h t : ℕ) → 0 < many (is_look j h t) v.own.log → i < t → 0 < cell_of (set_of c j) i
  seen_filled j i u h t m l = let y = k.tells n v.own (part_at c heap homes n v k) in let g = (y.grown j h t m).1 in (y.filled j u i (omega arith)).0

  -- a cell is no more than the pages of the largest region
  pub cell_low : (j i : ℕ) → j < 544 → cell_of (set_of c j) i ≤ MAX_PAGES
  cell_low j i low = let a = at_low c.sets j no_set (let x = k.sets in omega arith) in let most = k.small in
      dite (dec_le (suc i) (set_of c j).tail) (λ l. by_part a (omega arith) (is_swept_set c.generation j) refl)
      (λ l. let b = (kept c heap homes n v k).sets_fit.beyond j (set_of c j) a i (omega arith) in omega arith)
    where
      by_part : get_elem? c.sets j ≡ some (set_of c j) → i < (set_of c j).tail → (b : Bool) → is_swept_set c.generation j ≡ b → cell_of (set_of c j) i ≤ MAX_PAGES
      by_part a l true e = let m = k.entered.sets_name j (set_of c j) a e in let p = (m.entry i l).low in let most = k.small in
          ⊎_elim (λ (q : cell_of (set_of c j) i ≡ 0). let z : cell_of (set_of c j) i ≤ MAX_PAGES = omega arith in z) (λ (q : cell_of (set_of c j) i ≡ k.names j i + 1). omega arith) (m.cell i l)
      by_part a l false e = ((k.tells n v.own (part_at c heap homes n v k)).filled j e i l).1

  -- each marked index of a body's page is allocated
  pub has_marked : (b : Body) → Fits k.known c.lives b.page (span_of b) → HasMarked v.marks b
  has_marked b f j m = let t = k.marks.allocated b.page j (has_times j (marks_at b.page v.marks) (marks_has b.page j v.marks ∙ m)) in f.body.bits j ∙ times_has j (life_in b.page c.lives).allocated t.1

  -- nobody has a page at which a life begins, so its body is at home
  home_now : (p : ℕ) → p < length c.words → begins p c.lives ≡ true → ((m : ℕ) (x : Part) → get_elem? (parts_of n v) m ≡ some x → has3 p x ≡ 0) → IsHome k.known c.lives homes p
  home_now p low b none = ⊎_elim (λ (a : IsAway (parts_of n v) p). let z = none a.0 a.1 a.2 in let y = lends-le p a.1 in let l = a.3 in absurd (omega arith)) (λ (x : IsHome k.known c.lives homes p). x) (k.bodies.home p low b)

  -- a worker has nothing of a page that waits
  pub waiting_mine : (p : ℕ) → p < length c.words → get_or c.words p 0 + 2 ≡ c.generation → has3 p v.own ≡ 0
  waiting_mine p low w = let z = (unswept_word c.generation (tally c.generation c.words c.lives c.sets c.hands p) (four c heap homes n v k) ((kept c heap homes n v k).page p low).standing w).0 in
      nobodys c (parts_of n v) k.hands p (omega arith) n v.own (part_at c heap homes n v k)

  pub waiting_home : (p : ℕ) → p < length c.words → get_or c.words p 0 + 2 ≡ c.generation → IsHome k.known c.lives homes p
  waiting_home p low w = let z = (unswept_word c.generation (tally c.generation c.words c.lives c.sets c.hands p) (four c heap homes n v k) ((kept c heap homes n v k).page p low).standing w).0 in
      home_now p low (begin_at c heap homes n v k p low (λ e. let f = four c heap homes n v k in omega arith)) (nobodys c (parts_of n v) k.hands p (omega arith))

  -- a body that the worker holds and claims nothing for
  module _ (b : Body) (held : has b.page v.own.held ≡ true) (free : v.own.claimed ≡ None) (lent : HasBody v.own b) where
    pub held_low : b.page < length c.words
    held_low = low_of b.page (λ s. s.held) (λ le. (own_never c heap homes n v k b.page le).held) held

    pub held_word : get_or c.words b.page 0 ≡ c.generation
    held_word = (held_list c.generation (tally c.generation c.words c.lives c.sets c.hands b.page) ((kept c heap homes n v k).page b.page held_low).standing
        (let t = has_times b.page v.own.held held in let y = part_le (λ (y : HandState). times b.page y.held) c.hands n (hand_state v.own) (own_at c heap homes n v k) in omega arith)).0

    pub held_begins : begins b.page c.lives ≡ true
    held_begins = begin_at c heap homes n v k b.page held_low (λ e. let f = four c heap homes n v k in let w = held_word in omega arith)

    pub held_fits : Fits k.known c.lives b.page (span_of b)
    held_fits = let l = lent_now c heap homes n v k b.page (held_lent c heap homes n v k b.page held free) in subst (Fits k.known c.lives b.page) (some_same l.0 (span_of b) (sym l.1 ∙ lent)) l.2

    module _ (j : ℕ) (there : j < 544) (part : is_swept_set c.generation j ≡ true) (fits : IsOfSet j b) (unpopped : many (is_pop_of j b.page) v.own.log ≡ 0) where
      abbrev pub l : LifeState
      l = life_in b.page c.lives

      pub claim_class : is_class b.page (class_of_set j) c.lives ≡ true
      claim_class = class_found b.page (class_of_set j) c.lives held_begins (sym held_fits.body.class ∙ sym fits.class)

      pub claim_used : 0 < length l.allocated
      claim_used = some_in l.allocated fits.used.0 (sym (held_fits.body.bits fits.used.0) ∙ fits.used.2)

      pub claim_full : is_full_set j ≡ is_full_life l
      claim_full = go (is_full_set j) refl
        where
          go : (x : Bool) → is_full_set j ≡ x → is_full_set j ≡ is_full_life l
          go true e = e ∙ sym (is_full l (full_life (span_of b) l held_fits.body (fits.full e)))
          go false e = let r = fits.room e in e ∙ sym (has_room l r.0 (subst (λ (z : ℕ). r.0 < z) held_fits.body.count r.1) (sym (held_fits.body.bits r.0) ∙ r.2))

      pub claim_low : (set_of c j).tail < length c.words
      claim_low = claim_room c.generation c.words c.owners c.lives c.sets c.hands (kept c heap homes n v k) (logs_of n v) k.names k.entered n (hand_state v.own) (own_at c heap homes n v k) b.page held_low (has_times b.page v.own.held held) free
          j (set_of c j) (at_low c.sets j no_set (let x = k.sets in omega arith)) part claim_class claim_used claim_full (ap (many (is_pop_of j b.page)) (log_own c heap homes n v k v.own) ∙ unpopped)

      pub claim_allowed : refusal (claim_needs c n j b.page) ≡ None
      claim_allowed = none_refuses (claim_needs c n j b.page) (
        lt-ltb n _ (low_number c heap homes n v k),
        (
          lt-ltb j _ (let x = k.sets in omega arith),
          (
            lt-ltb b.page _ held_low,
            (
              part,
              (
                life_found b.page c.lives held_begins,
                (
                  eq-eqb _ _ (sym held_fits.body.class ∙ sym fits.class),
                  (
                    ap (λ (s : HandState). has b.page s.held) (own_hand c heap homes n v k) ∙ held,
                    (ap (λ (s : HandState). not (is_some s.claimed)) (own_hand c heap homes n v k) ∙ ap (λ (o : Option Claimed). not (is_some o)) free, (lt-ltb (set_of c j).tail 4294967295 (let a = claim_low in let y = k.small in omega arith), tt)),
                  ),
                ),
              ),
            ),
          ),
        ),
      )

  -- the filled cell at the head of a swept set
  module _ (j p : ℕ) (there : j < 544) (part : is_swept_set c.generation j ≡ true) (more : (set_of c j).head < (set_of c j).tail) (filled : cell_of (set_of c j) (set_of c j).head ≡ p + 1) where
    entry : IsEntry c.generation (length c.words) c.words c.lives j p
    entry = let m = k.entered.sets_name j (set_of c j) (at_low c.sets j no_set (let x = k.sets in omega arith)) part in
        let e : k.names j (set_of c j).head ≡ p = ⊎_elim (λ (z : cell_of (set_of c j) (set_of c j).head ≡ 0). absurd (omega arith)) (λ (z : cell_of (set_of c j) (set_of c j).head ≡ k.names j (set_of c j).head + 1). let y : k.names j (set_of c j).head ≡ p = omega arith in y) (m.cell (set_of c j).head more) in
        subst (IsEntry c.generation (length c.words) c.words c.lives j) e (m.entry (set_of c j).head more)

    pub popped_low : p < length c.words
    popped_low = entry.low

    pub popped_home : IsHome k.known c.lives homes p
    popped_home = let q = queued_by c.generation c.words c.owners c.lives c.sets c.hands (kept c heap homes n v k) (logs_of n v) k.names k.entered n (hand_state v.own) (own_at c heap homes n v k) j (set_of c j) (at_low c.sets j no_set (let x = k.sets in omega arith)) part (set_of c j).head (omega arith) more p filled in
        let x = queued_list c.generation (tally c.generation c.words c.lives c.sets c.hands p) ((kept c heap homes n v k).page p entry.low).standing q in let x₂ = x.2 in
        home_now p entry.low (begin_at c heap homes n v k p entry.low (λ e. let f = four c heap homes n v k in let w = x.0 in omega arith)) (nobodys c (parts_of n v) k.hands p (omega arith))

    -- the worker has nothing of it
    pub popped_mine : has3 p v.own ≡ 0
    popped_mine = let q = queued_by c.generation c.words c.owners c.lives c.sets c.hands (kept c heap homes n v k) (logs_of n v) k.names k.entered n (hand_state v.own) (own_at c heap homes n v k) j (set_of c j) (at_low c.sets j no_set (let x = k.sets in omega arith)) part (set_of c j).head (omega arith) more p filled in
        let x = queued_list c.generation (tally c.generation c.words c.lives c.sets c.hands p) ((kept c heap homes n v k).page p entry.low).standing q in let x₂ = x.2 in
        nobodys c (parts_of n v) k.hands p (omega arith) n v.own (part_at c heap homes n v k)

    head_names : k.names j (set_of c j).head ≡ p
    head_names = let m = k.entered.sets_name j (set_of c j) (at_low c.sets j no_set (let x = k.sets in omega arith)) part in
        ⊎_elim (λ (z : cell_of (set_of c j) (set_of c j).head ≡ 0). absurd (omega arith)) (λ (z : cell_of (set_of c j) (set_of c j).head ≡ k.names j (set_of c j).head + 1). let y : k.names j (set_of c j).head ≡ p = omega arith in y) (m.cell (set_of c j).head more)

    -- a span of a partial set has room, and one that was popped from a full set has none
    pub popped_full : is_full_set j ≡ false → (i : ℕ) → i < 544 → is_swept_set v.generation i ≡ true → is_full_set i ≡ true → many (is_pop_of i p) v.own.log ≡ 0
    popped_full room i below part' full = let mine = subst (λ (g : ℕ). is_swept_set g i ≡ true) k.generation part' in
        dite (dec_le (many (is_pop_of i p) v.own.log) 0) (λ z. omega arith)
        (λ z. let s = at_low c.sets i no_set (let x = k.sets in omega arith) in let o = ap (many (is_pop_of i p)) (log_own c heap homes n v k v.own) in
        let t = k.entered.told n (hand_state v.own) (own_at c heap homes n v k) i (get_or c.sets i no_set) s mine p (omega arith) in
        let r = (k.entered.sets_name i (get_or c.sets i no_set) s mine).entry t.0 (let x = t.1 in let y = k.owned.sets.order i (get_or c.sets i no_set) s in omega arith) in
        let m = k.entered.sets_name j (set_of c j) (at_low c.sets j no_set (let x = k.sets in omega arith)) part in
        let some : is_full_life (life_in p c.lives) ≡ false = ap (λ (y : ℕ). is_full_life (life_in y c.lives)) (sym head_names) ∙ m.room room (set_of c j).head (omega arith) more in
        absurd (true≢false (sym (r.full full) ∙ ap (λ (y : ℕ). is_full_life (life_in y c.lives)) t.2 ∙ some)))

    entry_begins : begins p c.lives ≡ true
    entry_begins = begin_at c heap homes n v k p entry.low (λ e. let f = four c heap homes n v k in
        ⊎_elim (λ (y : get_or c.words p 0 ≡ c.generation). let u : ⊥ = omega arith in u) (λ (y : get_or c.words p 0 ≡ c.generation + 3). let u : ⊥ = omega arith in u) entry.word)

    pub popped_fits : (b : Body) → Fits k.known c.lives p (span_of b) → IsOfSet j b
    popped_fits b f = let m = k.entered.sets_name j (set_of c j) (at_low c.sets j no_set (let x = k.sets in omega arith)) part in let i = first_in (life_in p c.lives).allocated entry.used in
        let w = (all_at ObjectsFit p c.lives (kept c heap homes n v k).objects entry_begins).allocated i.0 (has_times i.0 (life_in p c.lives).allocated i.1) in
        let e : k.names j (set_of c j).head ≡ p = ⊎_elim (λ (z : cell_of (set_of c j) (set_of c j).head ≡ 0). absurd (omega arith)) (λ (z : cell_of (set_of c j) (set_of c j).head ≡ k.names j (set_of c j).head + 1). let y : k.names j (set_of c j).head ≡ p = omega arith in y) (m.cell (set_of c j).head more) in record {
          class = sym (class_is p (class_of_set j) c.lives entry.class) ∙ sym f.body.class;
          used = (i.0, subst (λ (z : ℕ). i.0 < z) (sym f.body.count) w, f.body.bits i.0 ∙ i.1);
          full = λ y a l. f.body.bits a ∙ all_in (life_in p c.lives) (entry.full y) a (subst (λ (z : ℕ). a < z) f.body.count l);
          room = λ y. let r = free_in (life_in p c.lives) (ap (λ (z : ℕ). is_full_life (life_in z c.lives)) (sym e) ∙ m.room y (set_of c j).head (omega arith) more) in (r.0, subst (λ (z : ℕ). r.0 < z) (sym f.body.count) r.1, f.body.bits r.0 ∙ r.2);
        }

  pub fill_allowed : (d : Claimed) → v.own.claimed ≡ Some d → refusal (fill_needs c n) ≡ None
  fill_allowed d e = none_refuses (fill_needs c n)
      (lt-ltb n _ (low_number c heap homes n v k), (ap (λ (s : HandState). is_some s.claimed) (own_hand c heap homes n v k) ∙ ap (λ (o : Option Claimed). is_some o) e, tt))

  pub entry_allowed : (j : ℕ) → j < 544 → is_swept_set c.generation j ≡ false → (set_of c j).head < (set_of c j).tail → refusal (pop_unswept_needs c n j) ≡ None
  entry_allowed j there part more = none_refuses (pop_unswept_needs c n j)
      (lt-ltb n _ (low_number c heap homes n v k), (lt-ltb j _ (let x = k.sets in omega arith), (ap not part, (lt-ltb _ _ more, tt))))

  -- the page of a filled cell at the head of an unswept set is of the region
  pub entry_low : (j p : ℕ) → j < 544 → is_swept_set c.generation j ≡ false → (set_of c j).head < (set_of c j).tail → cell_of (set_of c j) (set_of c j).head ≡ p + 1 → p < length c.words
  entry_low j p there part more filled = let x = k.owned.sets.unswept_cell j (set_of c j) (at_low c.sets j no_set (let y = k.sets in omega arith)) part (set_of c j).head (omega arith) more in
      let e = x.1 in let l = x.2 in omega arith

  -- an object may be placed at the lowest free index of a body that the worker may place in
  module _ (b : Body) (i : ℕ) (lent : HasBody v.own b) (may : MayPlace v.own b) (free : HasFree b.count (allocated b) i) where
    pub place_has : 0 < lends b.page v.own
    place_has = ⊎_elim (λ x. cached_lent c heap homes n v k b.page x.0) (λ x. held_lent c heap homes n v k b.page x.0 x.1) may

    pub place_fits : Fits k.known c.lives b.page (span_of b)
    place_fits = let l = lent_now c heap homes n v k b.page place_has in subst (Fits k.known c.lives b.page) (some_same l.0 (span_of b) (sym l.1 ∙ lent)) l.2

    pub place_low : b.page < length c.words
    place_low = ⊎_elim (λ x. low_of b.page (λ s. s.cached) (λ le. (own_never c heap homes n v k b.page le).cached) x.0) (λ x. low_of b.page (λ s. s.held) (λ le. (own_never c heap homes n v k b.page le).held) x.0) may

    pub place_way : (0 < times b.page v.own.cached) ⊎ ((0 < times b.page v.own.held) × (v.own.claimed ≡ None))
    place_way = ⊎_elim (λ x. inl (has_times b.page v.own.cached x.0)) (λ x. inr (has_times b.page v.own.held x.0, x.1)) may

    pub place_free : least_outside (life_in b.page c.lives).allocated (life_in b.page c.lives).count ≡ Some i
    place_free = least_free (span_of b) (life_in b.page c.lives) i place_fits.body free

    pub place_allowed : refusal (allocate_needs c n b.page i) ≡ None
    place_allowed = none_refuses (allocate_needs c n b.page i) (
      lt-ltb n _ (low_number c heap homes n v k),
      (
        lt-ltb b.page _ place_low,
        (
          ap (λ (s : HandState). has b.page s.cached || has b.page s.held) (own_hand c heap homes n v k) ∙ at_hand,
          (
            ap (λ (s : HandState). (has b.page s.cached && eqb (get_or c.words b.page 0) (c.generation + 3)) || (has b.page s.held && (eqb (get_or c.words b.page 0) c.generation && eqb (life_in b.page c.lives).count 1))) (own_hand c heap homes n v k) ∙ may_now,
            (ap (is_holder i) place_free ∙ eq-eqb i i refl, tt),
          ),
        ),
      ),
    )
      where
        or_right : (x : Bool) → (x || true) ≡ true
        or_right true = refl
        or_right false = refl

        at_hand : (has b.page v.own.cached || has b.page v.own.held) ≡ true
        at_hand = ⊎_elim (λ x. ap (λ (y : Bool). y || has b.page v.own.held) x.0) (λ x. ap (λ (y : Bool). has b.page v.own.cached || y) x.0 ∙ or_right (has b.page v.own.cached)) may

        may_now : ((has b.page v.own.cached && eqb (get_or c.words b.page 0) (c.generation + 3)) || (has b.page v.own.held && (eqb (get_or c.words b.page 0) c.generation && eqb (life_in b.page c.lives).count 1))) ≡ true
        may_now = ⊎_elim
            (λ x. let f = (k.tells n v.own (part_at c heap homes n v k)).fresh b.page in
            ap (λ (y : Bool). y || (has b.page v.own.held && (eqb (get_or c.words b.page 0) c.generation && eqb (life_in b.page c.lives).count 1))) (sym f ∙ x.1))
            (λ x. let w = held_word b x.0 x.1 lent in let e : (has b.page v.own.held && (eqb (get_or c.words b.page 0) c.generation && eqb (life_in b.page c.lives).count 1)) ≡ true = rw (x.0, eq-eqb _ _ w, eq-eqb _ _ (sym place_fits.body.count ∙ x.2)) refl in
            ap (λ (y : Bool). (has b.page v.own.cached && eqb (get_or c.words b.page 0) (c.generation + 3)) || y) e ∙ or_right (has b.page v.own.cached && eqb (get_or c.words b.page 0) (c.generation + 3)))
            may

-- a part that has nothing of a page neither sweeps nor holds it, nor has it cached
pub apart_of : (h : Part) (p : ℕ) → mine p h ≡ 0 → IsApart h p
apart_of h p z = record { sweeping = has_none p h.sweeping (omega arith); held = has_none p h.held (omega arith); cached = has_none p h.cached (omega arith) }
