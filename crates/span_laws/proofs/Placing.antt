-- Placing an object keeps the rule.
use Rattle.std.proofs.Common.{◌≡◌, ◌≢◌, ℕ, ◌+◌, ◌<◌, ◌≤◌, ◌⊎◌, inl, inr, ⊎_elim, Bool, ◌&&◌, not, eqb, true, false, List, [], ◌∷◌, ◌++◌, set, get_or, length, refl, ap, sym, subst, ◌∙◌, arith}
use Rattle.std.specs.Prelude.{None, Some, Option}
use Rattle.std.specs.Option.{is_some}
use mathlib.Core.Logic.{dite}
use mathlib.Core.Option.{some}
use lib.ListN.{get_elem?}
use native.Mathlib.Decide.{ℕ_discrete}
use Rattle.std.proofs.lemmas.Bool.{eqb-true}
use Rattle.std.proofs.lemmas.List.{set-get_or}
use Rattle.page_alloc.specs.Heap.{PageHeap}
use Rattle.page_alloc.specs.Lives.{Life, life_of}
use Rattle.page_alloc.specs.Lists.{In}
use Rattle.page_bitmap.specs.Counts.{one_if}
use Rattle.span_state.specs.Bits.{bit_of, with_bit}
use Rattle.span_state.specs.declared.body.Body.{Body}
use Rattle.sweep_laws.specs.ChangesOfLives.{allocate_index, change_life}
use Rattle.sweep_laws.specs.Changes.{after_allocate}
use Rattle.sweep_laws.specs.Counts.{times}
use Rattle.sweep_laws.specs.Lists.{least_outside}
use Rattle.sweep_laws.specs.Reading.{is_swept_set, life_in, no_hand}
use Rattle.sweep_laws.specs.Owned.{Owned}
use Rattle.sweep_laws.specs.State.{CoreState, HandState, LifeState, SetState}
use Rattle.sweep_laws.specs.Tidy.{IsTidy, HasSpace}
use Rattle.sweep_laws.proofs.Lives.{alike_begins, changed_alike}
use Rattle.sweep_laws.proofs.NeedsMet.{both}
use Rattle.sweep_laws.proofs.Totals.{times_end, times_end_else}
use Rattle.swept_set_laws.specs.Entered.{Entered, IsSettled, log_of}
use Rattle.swept_set_laws.proofs.EnteredKept.{held_popped}
use Rattle.swept_set_laws.proofs.EnteredRest.{allocate_enters, cached_popped}
use Rattle.swept_set_laws.proofs.Stays.{change_else}
use Rattle.worker_log.specs.declared.Entry.{Entry}
use Rattle.worker_log.specs.Entries.{is_pop_of, many}
use Rattle.span_laws.specs.declared.said.SaidOf.TheVariants.{Places}
use Rattle.span_laws.specs.declared.view.Span.{Span}
use Rattle.span_laws.specs.declared.view.View.{View}
use Rattle.span_laws.specs.Bodies.{Fits, IsBody, lends}
use Rattle.span_laws.specs.Logs.{is_placing_at}
use Rattle.span_laws.specs.Rule.{Rule, logs_of}
use Rattle.span_laws.specs.Suits.{IsPlaceOf}
use Rattle.span_laws.specs.Tells.{IsPlaced}
use Rattle.span_laws.specs.Views.{acts, hand_state, span_at}
use Rattle.span_laws.specs.OwnSteps.{told_of}
use Rattle.span_laws.proofs.Lives.{allocate_body, changed_here}
use Rattle.span_laws.proofs.LifeMoves.{begin_at}
use Rattle.span_laws.proofs.Parts.{lends-le}
use Rattle.span_laws.proofs.RuleKept.{RuleOf, own_at, own_cache, own_hand, same_pops, turned}
use Rattle.span_laws.proofs.TellsKept.{Leads, own_tells}
use Rattle.span_laws.proofs.WordMoves.{four, gone_now, kept, lent_now, own_tells_of, span_else, span_here}

more_times : (j i : ℕ) (xs : List ℕ) → 0 < times j xs → 0 < times j (xs ++ i ∷ [])
more_times j i xs l = dite (ℕ_discrete j i)
    (λ e. subst (λ (z : ℕ). 0 < times z (xs ++ i ∷ [])) (sym e) (let t = times_end i xs in omega arith))
    (λ d. let t = times_end_else j i xs d in omega arith)

-- the logs gain entries that are no pops
pub logs_enter : {g pages : ℕ} {ws : List ℕ} {ls : List LifeState} {ss : List SetState} {hs : List HandState} {logs : List (List Entry)} {names : ℕ → ℕ → ℕ} (logs' : List (List Entry))
    → ((m j q : ℕ) → is_swept_set g j ≡ true → many (is_pop_of j q) (log_of logs' m) ≡ many (is_pop_of j q) (log_of logs m)) → Entered g pages ws ls ss hs logs names → Entered g pages ws ls ss hs logs' names
logs_enter {logs = logs} {names = names} logs' pops e = record {
  sets_name = e.sets_name;
  claim = e.claim;
  told = λ m x a j s b part p l. e.told m x a j s b part p (let z = pops m j p part in omega arith);
  known = λ m x a j s b part i l held. ⊎_elim (λ (z : 0 < many (is_pop_of j (names j i)) (log_of logs m)). inl (let w = pops m j (names j i) part in omega arith)) (λ z. inr z) (e.known m x a j s b part i l held);
}

module _ (c : CoreState) (heap : PageHeap) (homes : List (Option Body)) (n : ℕ) (v : View) (k : Rule c heap homes n v) where
  -- an object is placed at the least free index of a span that the worker has cached, or holds without a claim
  module _ (b s : Span) (i : ℕ) (lent : span_at b.page v.own.spans ≡ Some s) (place : IsPlaceOf s b) (bits : (j : ℕ) → bit_of b.bits j ≡ with_bit i (bit_of s.bits) j) (low : b.page < length c.words)
      (free : least_outside (life_in b.page c.lives).allocated (life_in b.page c.lives).count ≡ Some i) (settled : IsSettled c.generation (get_or c.words b.page 0)) (has : 0 < lends b.page v.own)
      (way : (0 < times b.page v.own.cached) ⊎ ((0 < times b.page v.own.held) × (v.own.claimed ≡ None))) where
    some_same : {A : Type 0} (x y : A) → Some x ≡ Some y → x ≡ y
    some_same x y z = cc

    apart : (m : ℕ) (x : SetState) → get_elem? c.sets m ≡ some x → is_swept_set c.generation m ≡ true → (j : ℕ) → x.head ≤ j → j < x.tail → k.names m j ≢ b.page
    apart m x a part j from l is = ⊎_elim
        (λ (y : 0 < times b.page v.own.cached). cached_popped c.generation c.words c.owners c.lives c.sets c.hands (kept c heap homes n v k) (logs_of n v) k.names k.entered n (hand_state v.own) (own_at c heap homes n v k) b.page low y m x a part j from l is)
        (λ (y : (0 < times b.page v.own.held) × (v.own.claimed ≡ None)). let z = held_popped c.generation c.words c.owners c.lives c.sets c.hands (kept c heap homes n v k) (logs_of n v) k.names k.entered n (hand_state v.own) (own_at c heap homes n v k) b.page low y.0 y.1 m x a part j l is in let w : ⊥ = omega arith in w)
        way

    pub place_keeps : (c' : CoreState) → c' ≡ after_allocate c b.page i → Owned c' → IsTidy c' → HasSpace c' → RuleOf c' heap homes n (acts v (told_of (Places i) b v.own)) k.known
    place_keeps c' e o t r =
        let p = b.page in let h = told_of (Places i) b v.own in let g = c.generation in let l = life_in p c.lives in
        let ls' = change_life p (allocate_index i) c.lives in
        let begun = begin_at c heap homes n v k p low (λ z. let f = four c heap homes n v k in ⊎_elim (λ (y : get_or c.words p 0 ≡ g). let w : ⊥ = omega arith in w) (λ (y : get_or c.words p 0 ≡ g + 3). let w : ⊥ = omega arith in w) settled) in
        let now : life_in p ls' ≡ allocate_index i l = changed_here p (allocate_index i) (λ z. refl) c.lives begun in
        let life : (q : ℕ) → q ≢ p → life_in q ls' ≡ life_in q c.lives = (λ q d. (change_else p q (allocate_index i) (λ z. refl) c.lives d).0) in
        let was = lent_now c heap homes n v k p has in
        let fits : Fits k.known c.lives p s = subst (Fits k.known c.lives p) (some_same was.0 s (sym was.1 ∙ lent)) was.2 in
        let d : CoreState = after_allocate c p i in
        let lead : Leads g c.words c.lives c.sets c.words ls' c.sets p = record {
          words = λ q x. refl;
          waits = λ q w. (
            w,
            dite (ℕ_discrete q p)
                (λ z. subst (λ (y : ℕ). (life_in y ls').class ≡ (life_in y c.lives).class) (sym z) (ap (λ (y : LifeState). y.class) now))
                (λ z. ap (λ (y : LifeState). y.class) (life q z)),
          );
          placed = λ q j m. (
            m.0,
            m.1,
            dite (ℕ_discrete q p)
                (λ z. subst (λ (y : ℕ). 0 < times j (life_in y ls').allocated) (sym z) (subst (λ (y : LifeState). 0 < times j y.allocated) (sym now) (more_times j i l.allocated (subst (λ (y : ℕ). 0 < times j (life_in y c.lives).allocated) z m.2))))
                (λ z. subst (λ (y : LifeState). 0 < times j y.allocated) (sym (life q z)) m.2),
          );
          empty = λ m u x. x;
          cells = λ m j q x. x;
          grow = λ m. (omega arith, omega arith);
          filled = λ m u f. f;
        } in
        let le = lends-le p v.own in
        let hands : c.hands ≡ set c.hands n (hand_state h) = sym (set-get_or c.hands n no_hand) ∙ ap (λ (y : HandState). set c.hands n y) (own_hand c heap homes n v k) in
        subst (λ (y : CoreState). RuleOf y heap homes n (acts v h) k.known) (sym e)
        (turned c heap homes n v k d heap homes h (subst Owned e o) (subst IsTidy e t) (subst HasSpace e r) refl refl refl hands refl refl refl k.legal k.allowed k.cycle k.known (own_cache c heap homes n v k h refl refl refl)
        p low (inl (omega arith)) k.names
        (subst (λ (y : List HandState). Entered g (length c.words) c.words ls' c.sets y (logs_of n (acts v h)) k.names) hands
        (logs_enter (logs_of n (acts v h)) (same_pops c heap homes n v k h (λ j q. omega arith))
        (allocate_enters g c.words c.owners c.lives c.sets c.hands (kept c heap homes n v k) (logs_of n v) k.names k.entered p i (ap (λ (y : Option ℕ). not (is_some y)) free) apart)))
        lead life (λ q x. sym (alike_begins q c.lives ls' (changed_alike p (allocate_index i) (λ z. record { page = refl; pages = refl; class = refl }) c.lives))) refl (λ z x y. y) (λ q x. refl)
        (λ q x. refl) (λ q x. span_else b v.own.spans q x)
        (λ y. (
          b,
          span_here b v.own.spans,
          record {
            page = refl;
            body = subst (IsBody b) (sym now) (allocate_body s b l i fits.body (record { page = place.page; pages = place.pages; count = place.count; class = place.class }) bits);
            line = (fits.line.0, subst (λ (z : Life). In z k.known) (λ j. life_of (place.life j) fits.line.0 (place.page j) (place.pages j) (place.class j)) fits.line.1);
          },
        ))
        (λ y. inl has)
        (λ _. gone_now c heap homes n v k p has)
        (λ y. ap (λ (z : LifeState). z.kept) now ∙ k.marks.kept p low y)
        (λ j a m. subst (λ (z : LifeState). 0 < times j z.allocated) (sym now) (more_times j i l.allocated a))
        (own_tells g c.words c.lives c.sets c.words ls' c.sets p lead v.own h (own_tells_of c heap homes n v k) (own_tells_of c heap homes n v k).fresh
        (λ q j m. placed q j m (eqb p q && eqb i j) refl now) (λ m q u y. inl (omega arith)) (λ m u y. inl (omega arith)) (λ m j q y. inl y) (λ m x z y. inl (omega arith)) (λ m. let a = (own_tells_of c heap homes n v k).passed m in omega arith)))
      where
        placed : (q j : ℕ) → 0 < one_if (eqb b.page q && eqb i j) + many (is_placing_at q j) v.own.log → (x : Bool) → (eqb b.page q && eqb i j) ≡ x
            → life_in b.page (change_life b.page (allocate_index i) c.lives) ≡ allocate_index i (life_in b.page c.lives)
            → (0 < many (is_placing_at q j) v.own.log) ⊎ IsPlaced c.generation c.words (change_life b.page (allocate_index i) c.lives) q j
        placed q j m false e now = inl (let z = ap one_if e in omega arith)
        placed q j m true e now = let t = both (eqb b.page q) (eqb i j) e in let is = eqb-true b.page q t.0 in let at = eqb-true i j t.1 in
            inr (subst (λ (z : ℕ × ℕ). IsPlaced c.generation c.words (change_life b.page (allocate_index i) c.lives) z.0 z.1) (λ x. (is x, at x))
            (low, settled, subst (λ (z : LifeState). 0 < times i z.allocated) (sym now) (let y = times_end i (life_in b.page c.lives).allocated in omega arith)))
