-- A mark end: its needs are met by what the driver's view tells, and it keeps the rule.
use Rattle.std.proofs.Common.{◌≡◌, ◌≢◌, ℕ, zero, suc, ◌+◌, ◌-◌, ◌/◌, ◌^◌, ◌<◌, ◌≤◌, ◌⊎◌, inl, inr, ⊎_elim, Bool, ◌&&◌, ◌||◌, not, cond, eqb, ltb, eq-eqb, ne_eqb, true, false, true≢false, List, [], ◌∷◌, map, length, get_or, refl, ap, sym, subst, ◌∙◌, arith, lt-ltb, set}
use Rattle.std.specs.Prelude.{None, Option, option_map}
use Rattle.std.specs.List.{AllByRecursion, find, position, prefix_len, range_with_len}
use Rattle.std.specs.Option.{is_some}
use Rattle.std.proofs.lemmas.Bool.{eqb-true}
use Rattle.std.proofs.lemmas.List.{length-map, map-set}
use mathlib.Core.Logic.{dite}
use mathlib.Core.Option.{some, some-injective, some-ne-none}
use lib.ListN.{get_elem?}
use native.Mathlib.Decide.{ℕ_discrete, dec_le}
use Rattle.page_alloc.specs.Heap.{PageHeap}
use Rattle.page_alloc.specs.Journal.{IsBy}
use Rattle.page_bitmap.specs.declared.line.Line.{Line}
use Rattle.span_state.specs.MarkSet.{has_pair}
use Rattle.span_state.specs.declared.body.Body.{Body}
use Rattle.sweep_laws.specs.ChangesOfHands.{forget_swept}
use Rattle.sweep_laws.specs.ChangesOfLives.{mark_life, marks_at}
use Rattle.sweep_laws.specs.ChangesOfSets.{empty_unswept}
use Rattle.sweep_laws.specs.Changes.{after_next}
use Rattle.sweep_laws.specs.Counts.{one_if, times, total, total_from}
use Rattle.sweep_laws.specs.Lists.{has, rises}
use Rattle.sweep_laws.specs.Named.{begins, claimers, is_claim, is_class, names_in, only, poppers, sweepers, unswept_own}
use Rattle.sweep_laws.specs.Reading.{cell_of, class_of_set, is_settled, is_swept_set, life_in, no_life, no_set, set_of}
use Rattle.sweep_laws.specs.NeedsOfRange.{refusal}
use Rattle.sweep_laws.specs.NeedsOfMarkEnd.{first_unpopped, is_allocated, is_idle}
use Rattle.sweep_laws.specs.Needs.{next_needs}
use Rattle.sweep_laws.specs.OwnedLives.{EachAt}
use Rattle.sweep_laws.specs.OwnedSets.{IsPage}
use Rattle.sweep_laws.specs.Owned.{Owned}
use Rattle.sweep_laws.specs.declared.moves.Claimed.{Claimed}
use Rattle.sweep_laws.specs.Standing.{Standing, is_free, is_unswept, is_sweeping, is_swept, is_stale, is_cached, Tally, tally}
use Rattle.sweep_laws.specs.State.{CoreState, HandState, LifeState, SetState}
use Rattle.sweep_laws.specs.Tidy.{IsTidy, HasSpace}
use Rattle.sweep_laws.proofs.LivesChange.{life_page}
use Rattle.sweep_laws.proofs.MarkEnd.{turns}
use Rattle.sweep_laws.proofs.Naming.{at_low, has_times, times_has}
use Rattle.sweep_laws.proofs.NeedsMet.{none_refuses, not_true, some_none}
use Rattle.sweep_laws.proofs.Totals.{inside_at, total_none}
use Rattle.swept_set_laws.proofs.EnteredRest.{empty_enters}
use Rattle.worker_log.specs.Entries.{many}
use Rattle.span_laws.specs.MarkEndAsks.{IsAtRest, IsKnown}
use Rattle.span_laws.specs.Bodies.{Bodies, Fits, IsAway, IsBody, IsHome, IsLent, lends}
use Rattle.span_laws.specs.Logs.{is_placing_at}
use Rattle.span_laws.specs.Caches.{CacheTells}
use Rattle.span_laws.specs.Rule.{Rule, logs_of}
use Rattle.span_laws.specs.Tells.{IsFilled, Tells}
use Rattle.span_laws.specs.Views.{hand_state, parts_of, span_of}
use Rattle.span_laws.specs.MarkEnds.{marked, rested}
use Rattle.span_laws.specs.declared.view.Part.{Part}
use Rattle.span_laws.specs.declared.view.Span.{Span}
use Rattle.span_laws.specs.declared.view.View.{View}
use Rattle.span_laws.proofs.LifeMoves.{begin_at}
use Rattle.span_laws.proofs.Lives.{marks_has}
use Rattle.span_laws.proofs.Parts.{at_map, has_none}
use Rattle.span_laws.proofs.RuleKept.{RuleOf, part_at}
use Rattle.span_laws.proofs.WordMoves.{four, kept}

module _ {A : Type 0} (test : A → Bool) where
  none_found : (xs : List A) → ((n : ℕ) (a : A) → get_elem? xs n ≡ some a → test a ≡ false) → find test xs ≡ None
  none_found [] h = refl
  none_found (x ∷ xs) h = rw (h 0 x refl) (none_found xs (λ n a e. h (suc n) a e))

  all_len : (xs : List A) → ((n : ℕ) (a : A) → get_elem? xs n ≡ some a → test a ≡ false) → prefix_len (λ x. not (test x)) xs ≡ length xs
  all_len [] h = refl
  all_len (x ∷ xs) h = rw (h 0 x refl) (let t = all_len xs (λ n a e. h (suc n) a e) in omega arith)

  none_placed : (xs : List A) → ((n : ℕ) (a : A) → get_elem? xs n ≡ some a → test a ≡ false) → position test xs ≡ None
  none_placed xs h = let e : ltb (prefix_len (λ x. not (test x)) xs) (length xs) ≡ false = rw (all_len xs h) (not_below (length xs)) in rw e refl
    where
      not_below : (n : ℕ) → ltb n n ≡ false
      not_below n = grind arith

pub map_at : {A B : Type 0} (f : A → B) (l : List A) (n : ℕ) (b : B) → get_elem? (map f l) n ≡ some b → (a : A) × (get_elem? l n ≡ some a) × (f a ≡ b)
map_at f [] n b e = absurd (some-ne-none b (sym e))
map_at f (x ∷ l) zero b e = (x, refl, some-injective (f x) b e)
map_at f (x ∷ l) (suc n) b e = map_at f l n b e

-- a sum that is not 0 has a part that is not
some_part : {A : Type 0} (f : A → ℕ) (l : List A) → 0 < total f l → (n : ℕ) × (a : A) × (get_elem? l n ≡ some a) × (0 < f a)
some_part f [] h = absurd (omega arith)
some_part f (x ∷ l) h = dite (dec_le 1 (f x)) (λ y. (0, x, refl, omega arith)) (λ y. let t = some_part f l (omega arith) in (suc t.0, t.1, t.2, t.3))

from_none : {A : Type 0} (f : ℕ → A → ℕ) (k : ℕ) (l : List A) → ((n : ℕ) (a : A) → get_elem? l n ≡ some a → f (k + n) a ≡ 0) → total_from f k l ≡ 0
from_none f k [] h = refl
from_none f k (x ∷ l) h = let s = h 0 x refl in let t = from_none f (k + 1) l (λ n a e. (let z : k + 1 + n ≡ k + suc n = omega arith in ap (λ (y : ℕ). f y a) z ∙ h (suc n) a e)) in
    let u : f k x ≡ 0 = ap (λ (y : ℕ). f y x) (let z : k ≡ k + 0 = omega arith in z) ∙ s in omega arith

none_unpopped : (g k : ℕ) (ss : List SetState) → ((n : ℕ) (s : SetState) → get_elem? ss n ≡ some s → is_swept_set g (k + n) ≡ false → s.head ≡ s.tail) → first_unpopped g k ss ≡ None
none_unpopped g k [] h = refl
none_unpopped g k (s ∷ ss) h = go (is_swept_set g k) refl (none_unpopped g (k + 1) ss (λ n x e u. h (suc n) x e (subst (λ (z : ℕ). is_swept_set g z ≡ false) (let z : k + 1 + n ≡ k + suc n = omega arith in z) u)))
  where
    go : (b : Bool) → is_swept_set g k ≡ b → first_unpopped g (k + 1) ss ≡ None → first_unpopped g k (s ∷ ss) ≡ None
    go true e rest = rw e rest
    go false e rest = let same : s.head ≡ s.tail = h 0 s refl (subst (λ (z : ℕ). is_swept_set g z ≡ false) (let z : k ≡ k + 0 = omega arith in z) e) in rw (e, eq-eqb s.head s.tail same) rest

emptied_at : (g k : ℕ) (ss : List SetState) (n : ℕ) (x : SetState) → get_elem? (empty_unswept g k ss) n ≡ some x → is_swept_set g (k + n) ≡ false → (x.head ≡ 0) × (x.tail ≡ 0)
emptied_at g k [] n x e u = absurd (some-ne-none x (sym e))
emptied_at g k (s ∷ ss) zero x e u = let b : is_swept_set g k ≡ false = subst (λ (z : ℕ). is_swept_set g z ≡ false) (let z : k + 0 ≡ k = omega arith in z) u in
    let y : record s { head = 0; tail = 0; cells = [] } ≡ x = some-injective _ x (rw b at e) in (sym (ap (λ (z : SetState). z.head) y), sym (ap (λ (z : SetState). z.tail) y))
emptied_at g k (s ∷ ss) (suc n) x e u = emptied_at g (k + 1) ss n x e (subst (λ (z : ℕ). is_swept_set g z ≡ false) (let z : k + suc n ≡ k + 1 + n = omega arith in z) u)

kept_at : (g k : ℕ) (ss : List SetState) (j : ℕ) → is_swept_set g (k + j) ≡ true → get_or (empty_unswept g k ss) j no_set ≡ get_or ss j no_set
kept_at g k [] j e = refl
kept_at g k (s ∷ ss) zero e = let b : is_swept_set g k ≡ true = subst (λ (z : ℕ). is_swept_set g z ≡ true) (let z : k + 0 ≡ k = omega arith in z) e in rw b refl
kept_at g k (s ∷ ss) (suc j) e = kept_at g (k + 1) ss j (subst (λ (z : ℕ). is_swept_set g z ≡ true) (let z : k + suc j ≡ k + 1 + j = omega arith in z) e)

tail_in : (ss : List SetState) (j : ℕ) → 0 < (get_or ss j no_set).tail → j < length ss
tail_in [] j l = absurd (omega arith)
tail_in (s ∷ ss) zero l = omega arith
tail_in (s ∷ ss) (suc j) l = let t = tail_in ss j l in omega arith

length_emptied : (g k : ℕ) (ss : List SetState) → length (empty_unswept g k ss) ≡ length ss
length_emptied g k [] = refl
length_emptied g k (s ∷ ss) = let t = length_emptied g (k + 1) ss in omega arith

-- a life that begins, where all lives are marked
marked_here : (marks : List (ℕ × ℕ)) (p : ℕ) (ls : List LifeState) → begins p ls ≡ true → life_in p (map (mark_life marks) ls) ≡ mark_life marks (life_in p ls)
marked_here marks p [] b = absurd (true≢false (sym b))
marked_here marks p (l ∷ ls) b = dite (ℕ_discrete l.page p) (λ s. rw (eq-eqb l.page p s) refl) (λ s. let a = ne_eqb l.page p s in let j : begins p ls ≡ true = rw a at b in rw a (marked_here marks p ls j))

marked_begins : (marks : List (ℕ × ℕ)) (p : ℕ) (ls : List LifeState) → begins p (map (mark_life marks) ls) ≡ begins p ls
marked_begins marks p [] = refl
marked_begins marks p (l ∷ ls) = ap (λ (b : Bool). cond (eqb l.page p) true b) (marked_begins marks p ls)

marked_none : (marks : List (ℕ × ℕ)) (p : ℕ) (ls : List LifeState) → begins p ls ≡ false → (life_in p (map (mark_life marks) ls) ≡ no_life) × (life_in p ls ≡ no_life)
marked_none marks p [] b = (refl, refl)
marked_none marks p (l ∷ ls) b = dite (ℕ_discrete l.page p) (λ s. let x : true ≡ false = rw (eq-eqb l.page p s) at b in absurd (true≢false x)) (λ s. let a = ne_eqb l.page p s in let j : begins p ls ≡ false = rw a at b in let t = marked_none marks p ls j in (rw a t.0, rw a t.1))

module _ (c : CoreState) (heap : PageHeap) (homes : List (Option Body)) (n : ℕ) (v : View) (k : Rule c heap homes n v) (marks : List (ℕ × ℕ)) (rising : rises marks ≡ true) (rest : IsAtRest n v) (known : AllByRecursion (IsKnown n v) marks) where
  abbrev ps : List Part
  ps = parts_of n v

  hand_part : (m : ℕ) (h : HandState) → get_elem? c.hands m ≡ some h → (x : Part) × (get_elem? ps m ≡ some x) × (hand_state x ≡ h)
  hand_part m h a = map_at hand_state ps m h (subst (λ (l : List HandState). get_elem? l m ≡ some h) k.hands a)

  idle : (m : ℕ) (h : HandState) → get_elem? c.hands m ≡ some h → (h.sweeping ≡ []) × (h.held ≡ []) × (h.popped ≡ []) × (h.claimed ≡ None)
  idle m h a = let x = hand_part m h a in let i = rest.idle m x.0 x.1 in
      (ap (λ (y : HandState). y.sweeping) (sym x.2) ∙ i.sweeping, ap (λ (y : HandState). y.held) (sym x.2) ∙ i.held, ap (λ (y : HandState). y.popped) (sym x.2) ∙ i.popped, ap (λ (y : HandState). y.claimed) (sym x.2) ∙ i.claimed)

  no_popper : (p : ℕ) → poppers p c.hands ≡ 0
  no_popper p = total_none (λ (y : HandState). times p y.popped) c.hands (λ m h a. ap (times p) (idle m h a).2)

  no_sweeper : (p : ℕ) → sweepers p c.hands ≡ 0
  no_sweeper p = total_none (λ (y : HandState). times p y.sweeping) c.hands (λ m h a. ap (times p) (idle m h a).0)

  -- the unswept sets are empty
  level : (j : ℕ) (s : SetState) → get_elem? c.sets j ≡ some s → is_swept_set c.generation j ≡ false → s.head ≡ s.tail
  level j s a u = let low = inside_at c.sets j s a in let is : set_of c j ≡ s = some-injective (set_of c j) s (sym (at_low c.sets j no_set low) ∙ a) in
      let e = rest.empty j (let x = k.sets in omega arith) (subst (λ (g : ℕ). is_swept_set g j ≡ false) (sym k.generation) u) in
      let t = (k.tells n v.own (part_at c heap homes n v k)).emptied j u e in subst (λ (y : SetState). y.head ≡ y.tail) is t

  no_waiting : (p : ℕ) → unswept_own c.generation p c.lives c.sets ≡ 0
  no_waiting p = from_none (λ j s. only (is_class p (class_of_set j) c.lives) (only (not (is_swept_set c.generation j)) (names_in p s))) 0 c.sets
      (λ m s a. let is : 0 + m ≡ m = omega arith in zero (is_class p (class_of_set (0 + m)) c.lives) (is_swept_set c.generation (0 + m)) refl s (λ u. level m s a (ap (is_swept_set c.generation) (sym is) ∙ u)))
    where
      zero_only : (b : Bool) → only b 0 ≡ 0
      zero_only true = refl
      zero_only false = refl

      unpopped_none : (s : SetState) → s.head ≡ s.tail → names_in p s ≡ 0
      unpopped_none s e = let z : s.tail - s.head ≡ 0 = omega arith in ap (λ (y : ℕ). times (p + 1) (map (cell_of s) (range_with_len s.head y))) z

      zero : (b w : Bool) → {w' : Bool} → w' ≡ w → (s : SetState) → (w ≡ false → s.head ≡ s.tail) → only b (only (not w) (names_in p s)) ≡ 0
      zero b true e s f = zero_only b
      zero b false e s f = ap (only b) (unpopped_none s (f refl)) ∙ zero_only b

  -- no index is claimed, so the swept sets are filled
  filled_before : (j : ℕ) → is_swept_set c.generation j ≡ true → IsFilled (set_of c j)
  filled_before j part i l = let a = at_low c.sets j no_set (tail_in c.sets j (omega arith)) in
      dite (dec_le (suc i) (set_of c j).head)
      (λ z. let m = k.entered.sets_name j (set_of c j) a part in let f = m.gone i (omega arith) in let low = (m.entry i l).low in let most = k.small in
      ⊎_elim (λ (q : cell_of (set_of c j) i ≡ 0). absurd (omega arith)) (λ (q : cell_of (set_of c j) i ≡ k.names j i + 1). (f, omega arith)) (m.cell i l))
      (λ z. ⊎_elim (λ (q : IsPage (length c.words) (λ p. is_class p (class_of_set j) c.lives ≡ true) (cell_of (set_of c j) i)). let y = q.1 in let low = q.2 in let most = k.small in (omega arith, omega arith))
      (λ (q : (cell_of (set_of c j) i ≡ 0) × (claimers j i c.hands ≡ 1)). let y = none i in absurd (omega arith))
      ((kept c heap homes n v k).sets_fit.swept_cell j (set_of c j) a part i (omega arith) l))
    where
      none : (i : ℕ) → claimers j i c.hands ≡ 0
      none i = total_none (λ (h : HandState). one_if (is_claim j i h.claimed)) c.hands (λ m h a. ap (λ (o : Option Claimed). one_if (is_claim j i o)) (idle m h a).3)

  filled_after : (j : ℕ) → is_swept_set (c.generation + 2) j ≡ false → IsFilled (get_or (empty_unswept c.generation 0 c.sets) j no_set)
  filled_after j u = let part : is_swept_set c.generation j ≡ true = turned_part (is_swept_set c.generation j) refl in
      subst IsFilled (sym (kept_at c.generation 0 c.sets j (let z : 0 + j ≡ j = omega arith in ap (is_swept_set c.generation) z ∙ part))) (filled_before j part)
    where
      turned_part : (b : Bool) → is_swept_set c.generation j ≡ b → is_swept_set c.generation j ≡ true
      turned_part true e = e
      turned_part false e = absurd (true≢false (let t = turns c.generation j in ap not (sym e) ∙ sym t ∙ u))

  -- each word is 0, G or G+3
  settled : (p : ℕ) → p < length c.words → is_settled c.generation (get_or c.words p 0) ≡ true
  settled p low = by_standing ((kept c heap homes n v k).page p low).standing
    where
      t : Tally
      t = tally c.generation c.words c.lives c.sets c.hands p

      third : (a b : Bool) → (a || (b || true)) ≡ true
      third true b = refl
      third false true = refl
      third false false = refl

      second : (a : Bool) → (a || true) ≡ true
      second true = refl
      second false = refl

      stale : t.word ≡ c.generation + 1 → t.cached ≡ 1 → ⊥
      stale w one = let s = some_part (λ (y : HandState). times p y.cached) c.hands (omega arith) in let x = hand_part s.0 s.1 s.2 in
          let h : has p x.0.cached ≡ true = times_has p x.0.cached (subst (λ (y : HandState). 0 < times p y.cached) (sym x.2) s.3) in
          let f = rest.fresh s.0 x.0 x.1 p h in let e = (k.tells s.0 x.0 x.1).fresh p in
          let z : (true && eqb (get_or c.words p 0) (c.generation + 3)) ≡ true = subst (λ (b : Bool). (b && eqb (get_or c.words p 0) (c.generation + 3)) ≡ true) h (sym e ∙ f) in
          let y = eqb-true (get_or c.words p 0) (c.generation + 3) z in omega arith

      by_standing : Standing c.generation t → is_settled c.generation (get_or c.words p 0) ≡ true
      by_standing (is_free w z) = rw (eq-eqb (get_or c.words p 0) 0 w) refl
      by_standing (is_unswept w z o) = let a = no_waiting p in let b = no_popper p in absurd (omega arith)
      by_standing (is_sweeping w o z) = let a = no_sweeper p in absurd (omega arith)
      by_standing (is_swept w z o) = rw (eq-eqb (get_or c.words p 0) c.generation w) (second (eqb (get_or c.words p 0) 0))
      by_standing (is_stale w o z) = absurd (stale w o)
      by_standing (is_cached w o z) = rw (eq-eqb (get_or c.words p 0) (c.generation + 3) w) (third (eqb (get_or c.words p 0) 0) (eqb (get_or c.words p 0) c.generation))

  -- each mark names an allocated index of a page of the region
  is_known : (m : ℕ × ℕ) → IsKnown n v m → (m.0 < length c.words) × (0 < times m.1 (life_in m.0 c.lives).allocated)
  is_known m w = ⊎_elim
      (λ (h : has_pair v.marks m.0 m.1 ≡ true). k.marks.allocated m.0 m.1 (has_times m.1 (marks_at m.0 v.marks) (marks_has m.0 m.1 v.marks ∙ h)))
      (λ (h : (i : ℕ) × (x : Part) × (get_elem? ps i ≡ some x) × (0 < many (is_placing_at m.0 m.1) x.log)). let z = (k.tells h.0 h.1 h.2).placed m.0 m.1 h.3 in (z.0, z.2))
      w

  none_wrong : (ms : List (ℕ × ℕ)) → AllByRecursion (IsKnown n v) ms → find (λ (m : ℕ × ℕ). not (is_allocated c m)) ms ≡ None
  none_wrong [] a = refl
  none_wrong (m ∷ ms) a = let x : is_allocated c m ≡ true = times_has m.1 (life_in m.0 c.lives).allocated (is_known m a.0).1 in rw x (none_wrong ms a.1)

  pub next_allowed : EachAt c.hands (λ (m : ℕ) (h : HandState). h.pulled ≡ []) → refusal (next_needs c marks) ≡ None
  next_allowed nothing = none_refuses (next_needs c marks) (
    rising,
    (
      ap (λ (o : Option ℕ). not (is_some o)) k.unlocked,
      (
        lt-ltb c.generation (2 ^ 63) (let e = k.early in omega arith),
        (
          ap (λ (o : Option ℕ). not (is_some o)) (none_placed (λ (h : HandState). not (is_idle h)) c.hands (λ m h a. let i = idle m h a in rw (i.0, i.1, i.2) refl)),
          (
            ap (λ (o : Option HandState). not (is_some o)) (none_found (λ (h : HandState). not (eqb (length h.pulled) 0)) c.hands
                (λ m h a. ap (λ (l : List ℕ). not (eqb (length l) 0)) (nothing m h a))),
            (
              ap (λ (o : Option HandState). not (is_some o)) (none_found (λ (h : HandState). is_some h.claimed) c.hands (λ m h a. ap is_some (idle m h a).3)),
              (
                ap (λ (o : Option ℕ). not (is_some o)) (none_found (λ (w : ℕ). not (is_settled c.generation w)) c.words
                    (λ m w a. let low = inside_at c.words m w a in let is : get_or c.words m 0 ≡ w = some-injective _ w (sym (at_low c.words m 0 low) ∙ a) in ap not (subst (λ (y : ℕ). is_settled c.generation y ≡ true) is (settled m low)))),
                (
                  ap (λ (o : Option SetState). not (is_some o)) (none_unpopped c.generation 0 c.sets (λ m s a u. level m s a (subst (λ (z : ℕ). is_swept_set c.generation z ≡ false) (let z : 0 + m ≡ m = omega arith in z) u))),
                  (ap (λ (o : Option (ℕ × ℕ)). not (is_some (option_map (λ (m : ℕ × ℕ). m.1) o))) (none_wrong marks known), tt),
                ),
              ),
            ),
          ),
        ),
      ),
    ),
  )

  is_by_more : (a b : ℕ) (past : List Line) → a ≤ b → IsBy a past → IsBy b past
  is_by_more a b [] l i = tt
  is_by_more a b (x ∷ past) l i = omega arith

  same_map : {A B C D : Type 0} (f : B → C) (g : A → B) (h : D → C) (r : A → D) → ((x : A) → f (g x) ≡ h (r x)) → (xs : List A) → map f (map g xs) ≡ map h (map r xs)
  same_map f g h r e [] = refl
  same_map f g h r e (x ∷ xs) = λ i. e x i ∷ same_map f g h r e xs i

  pub silent : (xs : List Part) (m : ℕ) → get_or (map (λ (h : Part). h.log) (map rested xs)) m [] ≡ []
  silent [] m = refl
  silent (x ∷ xs) zero = refl
  silent (x ∷ xs) (suc m) = silent xs m

  abbrev ls' : List LifeState
  ls' = map (mark_life marks) c.lives

  pub parts' : set (map rested v.parts) n (rested v.own) ≡ map rested ps
  parts' = sym (map-set rested v.parts n v.own)

  -- what a mark end leaves of a life
  life_after : (P : LifeState → Type 0) (p : ℕ) → ((l : LifeState) → P l → P (mark_life marks l)) → P (life_in p c.lives) → P (life_in p ls')
  life_after P p f h = go (begins p c.lives) refl
    where
      go : (b : Bool) → begins p c.lives ≡ b → P (life_in p ls')
      go true e = subst P (sym (marked_here marks p c.lives e)) (f (life_in p c.lives) h)
      go false e = let t = marked_none marks p c.lives e in subst P (sym t.0) (subst P t.1 h)

  fits_after : (p : ℕ) (s : Span) → Fits k.known c.lives p s → Fits k.known ls' p s
  fits_after p s f = record {
    page = f.page;
    body = life_after (IsBody s) p (λ l b. record { page = b.page; pages = b.pages; count = b.count; class = b.class; bits = b.bits }) f.body;
    line = f.line;
  }

  from_marks : (P : ℕ × ℕ → Type 0) (p i : ℕ) (ms : List (ℕ × ℕ)) → AllByRecursion P ms → 0 < times i (marks_at p ms) → (m : ℕ × ℕ) × (P m) × (m.0 ≡ p) × (m.1 ≡ i)
  from_marks P p i [] a l = absurd (omega arith)
  from_marks P p i (m ∷ ms) a l = dite (ℕ_discrete m.0 p)
      (λ e. dite (ℕ_discrete m.1 i) (λ f. (m, a.0, e, f))
      (λ f. let x : 0 < times i (m.1 ∷ marks_at p ms) = rw (eq-eqb m.0 p e) at l in let y = ap one_if (ne_eqb m.1 i f) in from_marks P p i ms a.1 (omega arith)))
      (λ d. let x : 0 < times i (marks_at p ms) = rw (ne_eqb m.0 p d) at l in from_marks P p i ms a.1 x)

  not_cached : (p : ℕ) (y : Part) (m : ℕ) → get_elem? ps m ≡ some y → false ≡ (has p y.cached && eqb (get_or c.words p 0) (c.generation + 2 + 3))
  not_cached p y m a = dite (dec_le (suc p) (length c.words))
      (λ l. let w = word_of l in ap (λ (b : Bool). b) (sym (and_none (has p y.cached))) ∙ ap (λ (b : Bool). has p y.cached && b) (sym (ne_eqb (get_or c.words p 0) (c.generation + 2 + 3) w)))
      (λ l. let t = k.tidy.hands m (hand_state y) (ap (λ (z : List HandState). get_elem? z m) k.hands ∙ at_map hand_state ps m y a) p (omega arith) in
      ap (λ (b : Bool). b && eqb (get_or c.words p 0) (c.generation + 2 + 3)) (sym (has_none p y.cached t.cached)))
    where
      and_none : (b : Bool) → (b && false) ≡ false
      and_none true = refl
      and_none false = refl

      word_of : p < length c.words → get_or c.words p 0 ≢ c.generation + 2 + 3
      word_of l e = let s = settled p l in let x : is_settled c.generation (c.generation + 2 + 3) ≡ true = subst (λ (z : ℕ). is_settled c.generation z ≡ true) e s in
          true≢false (sym x ∙ (let f = four c heap homes n v k in rw (ne_eqb (c.generation + 2 + 3) 0 (λ z. omega arith), ne_eqb (c.generation + 2 + 3) c.generation (λ z. omega arith), ne_eqb (c.generation + 2 + 3) (c.generation + 3) (λ z. omega arith)) refl))

  -- a worker without a page cache has pulled nothing
  pub none_pulled : EachAt (parts_of n v) (λ (m : ℕ) (h : Part). h.cache ≡ None) → EachAt c.hands (λ (m : ℕ) (h : HandState). h.pulled ≡ [])
  none_pulled uncached m h a = let x = hand_part m h a in ap (λ (y : HandState). y.pulled) (sym x.2) ∙ ((k.caches m x.0 x.1).none (uncached m x.0 x.1)).1

  -- nor has it one behind a mark end
  rested_cache : EachAt (parts_of n v) (λ (m : ℕ) (h : Part). h.cache ≡ None) → (m : ℕ) (h : Part) → get_elem? ps m ≡ some h → CacheTells m (rested h)
  rested_cache uncached m h a = let t = (k.caches m h a).none (uncached m h a) in record { none = λ e. (refl, t.1); some = λ x e. absurd (some_none x (sym e ∙ uncached m h a)) }

  pub next_keeps : EachAt (parts_of n v) (λ (m : ℕ) (h : Part). h.cache ≡ None) → (past : List Line) → v.generation < 8589934592 → (c' : CoreState) → c' ≡ after_next c marks → Owned c' → IsTidy c' → HasSpace c' → RuleOf c' heap homes n (marked n past marks v) k.known
  next_keeps uncached past low c' e o t r = subst (λ (s : CoreState). RuleOf s heap homes n (marked n past marks v) k.known) (sym e) (
    record {
      owned = subst Owned e o;
      tidy = subst IsTidy e t;
      space = subst HasSpace e r;
      unlocked = k.unlocked;
      number = subst (λ (z : ℕ). n < z) (sym (length-map v.parts rested)) k.number;
      hands = ap (map forget_swept) k.hands ∙ same_map forget_swept hand_state hand_state rested (λ x. refl) ps ∙ ap (map hand_state) (sym parts');
      region = k.region;
      small = k.small;
      goal = k.goal;
      generation = ap (λ (z : ℕ). z + 2) k.generation;
      sets = length_emptied c.generation 0 c.sets ∙ k.sets;
      heap_region = k.heap_region;
      legal = k.legal;
      allowed = k.allowed;
      cycle = is_by_more ((c.generation - 4) / 2) ((c.generation + 2 - 4) / 2) heap.past (omega arith) k.cycle;
      early = (let x = low in let g = k.generation in let y = (kept c heap homes n v k).generation.even in omega arith);
      names = λ s i. 0;
      entered = empty_enters (c.generation + 2) (length c.words) c.words ls' (empty_unswept c.generation 0 c.sets) (map forget_swept c.hands) (logs_of n (marked n past marks v)) (λ s i. 0)
          (λ s x a part. emptied_at c.generation 0 c.sets s x a (let z : 0 + s ≡ s = omega arith in ap (is_swept_set c.generation) z ∙ not_true (is_swept_set c.generation s) (sym (turns c.generation s) ∙ part)))
          (λ m h a. let x = map_at forget_swept c.hands m h a in ap (λ (z : HandState). z.claimed) (sym x.2) ∙ (idle m x.0 x.1).3)
          (λ m. ap (λ (l : List Part). get_or (map (λ (h : Part). h.log) l) m []) parts' ∙ silent ps m);
      known = k.known;
      bodies = subst (λ (l : List Part). Bodies (length c.words) k.known ls' homes l) (sym parts') (record {
        many = k.bodies.many;
        lent = λ m x a p l. let y = map_at rested ps m x a in
            subst (λ (z : Part). IsLent k.known ls' z p) y.2 (let s = k.bodies.lent m y.0 y.1 p (subst (λ (z : Part). 0 < lends p z) (sym y.2) l) in let z : IsLent k.known ls' (rested y.0) p = (s.0, s.1, fits_after p s.0 s.2) in z);
        gone = λ m x a p l. let y = map_at rested ps m x a in k.bodies.gone m y.0 y.1 p (subst (λ (z : Part). 0 < lends p z) (sym y.2) l);
        bare = λ p b. k.bodies.bare p (sym (marked_begins marks p c.lives) ∙ b);
        home = λ p l b. ⊎_elim (λ (a : IsAway ps p). inl (a.0, rested a.1, at_map rested ps a.0 a.1 a.2, a.3)) (λ (x : IsHome k.known c.lives homes p). inr (x.0, x.1, fits_after p (span_of x.0) x.2))
            (k.bodies.home p l (sym (marked_begins marks p c.lives) ∙ b));
      });
      marks = record {
        kept = λ p low w. let b = begin_at c heap homes n v k p low (λ z. let f = four c heap homes n v k in
            ⊎_elim (λ (y : get_or c.words p 0 + 2 ≡ c.generation + 2). let u : ⊥ = omega arith in u)
            (λ (y : (get_or c.words p 0 + 1 ≡ c.generation + 2) ⊎ (get_or c.words p 0 ≡ c.generation + 2 + 1)). ⊎_elim (λ (q : get_or c.words p 0 + 1 ≡ c.generation + 2). let u : ⊥ = omega arith in u) (λ (q : get_or c.words p 0 ≡ c.generation + 2 + 1). let u : ⊥ = omega arith in u) y) w) in
            ap (λ (l : LifeState). l.kept) (marked_here marks p c.lives b) ∙ ap (λ (z : ℕ). marks_at z marks) (life_page p c.lives b);
        allocated = λ p i m. let x = from_marks (IsKnown n v) p i marks known m in let y = is_known x.0 x.1 in
            (subst (λ (z : ℕ). z < length c.words) x.2 y.0, life_after (λ (l : LifeState). 0 < times i l.allocated) p (λ l h. h) (subst (λ (z : ℕ × ℕ). 0 < times z.1 (life_in z.0 c.lives).allocated) (λ j. (x.2 j, x.3 j)) y.1));
      };
      tells = subst (λ (l : List Part). EachAt l (λ i h. Tells (c.generation + 2) c.words ls' (empty_unswept c.generation 0 c.sets) h)) (sym parts')
          (λ m x a. let y = map_at rested ps m x a in subst (Tells (c.generation + 2) c.words ls' (empty_unswept c.generation 0 c.sets)) y.2 (record {
            fresh = λ p. not_cached p y.0 m y.1;
            placed = λ p i l. absurd (omega arith);
            emptied = λ s u l. absurd (omega arith);
            read = λ s i p l. absurd (true≢false (sym l));
            filled = λ s u. filled_after s u;
            waits = λ s p u l w. absurd (omega arith);
            grown = λ s x y l. absurd (omega arith);
            passed = λ k. omega arith;
          }));
      caches = subst (λ (l : List Part). EachAt l (λ i h. CacheTells i h)) (sym parts') (λ m x a. let y = map_at rested ps m x a in subst (CacheTells m) y.2 (rested_cache uncached m y.0 y.1));
    },
    refl,
  )
