-- A driver beside whom no worker has anything of a span: it places an object, looks at sets and ends a mark phase.
use Rattle.std.proofs.Common.{◌≡◌, ℕ, zero, suc, ◌+◌, ◌<◌, inl, inr, ◌&&◌, Bool, not, eqb, eq-eqb, true, false, true≢false, List, [], ◌∷◌, ◌++◌, map, length, refl, ap, sym, subst, ◌∙◌, arith}
use Rattle.std.specs.Prelude.{None, Option}
use Rattle.std.specs.List.{AllByRecursion, range_with_len}
use Rattle.std.specs.Option.{unwrap_or}
use Rattle.std.proofs.lemmas.Bool.{cases_Bool, eqb-true}
use Rattle.std.proofs.lemmas.List.FromFn.{length-map-range_with_len}
use Rattle.std.proofs.lemmas.List.{length-map, map-set}
use mathlib.Core.Logic.{dite}
use mathlib.Core.Option.{some, some-injective}
use lib.ListN.{get_elem?}
use native.Mathlib.Decide.{ℕ_discrete}
use Rattle.atomic_table.specs.Seated.{TableId}
use Rattle.page_bitmap.specs.declared.line.Line.{Line}
use Rattle.page_bitmap.specs.Counts.{one_if}
use Rattle.sweep_laws.specs.Lists.{erase, has}
use Rattle.sweep_laws.specs.Reading.{is_swept_set}
use Rattle.sweep_laws.specs.OwnedLives.{EachAt}
use Rattle.sweep_laws.proofs.Naming.{set_here}
use Rattle.worker_log.specs.declared.Entry.TheVariants.{Looked}
use Rattle.worker_log.specs.SetNumbers.{swept_set}
use Rattle.worker_log.specs.Entries.{is_placing_in, is_pop_of, is_seen_empty, many}
use Rattle.worker_log.proofs.Logs.{many-append}
use Rattle.span_state.specs.Bits.{bit_of, count_below}
use Rattle.span_state.specs.MarkSet.{has_pair}
use Rattle.span_state.specs.Spans.{allocated}
use Rattle.span_state.specs.declared.body.Body.{Body}
use Rattle.span_set.proofs.Numbers.{swept_is, swept_low}
use Rattle.span_laws.specs.Asks.{IsFresh, IsUntouched, IsIdle, MayPlace}
use Rattle.span_laws.specs.MarkEndAsks.{IsAtRest, IsKnown, MayMark, MaySettle}
use Rattle.span_laws.specs.Logs.{EndsSweptEmpty, is_placing_at}
use Rattle.span_laws.specs.declared.said.Said.TheVariants.{Caches, Claims, Fills, Looks, Reads}
use Rattle.span_laws.specs.declared.said.SaidOf.TheVariants.{Acquires, Places, Releases, Takes}
use Rattle.span_laws.specs.declared.view.Part.{Part}
use Rattle.span_laws.specs.declared.view.Span.{Span}
use Rattle.span_laws.specs.declared.view.View.{View}
use Rattle.span_laws.specs.Views.{Seen, acts, first_view, no_part, no_span, parts_of, span_at, span_of}
use Rattle.span_laws.specs.OwnSteps.{after_of, after_said}
use Rattle.span_laws.specs.Handed.{knows}
use Rattle.span_laws.specs.MarkEnds.{after_next, rested}
use Rattle.span_laws.proofs.MarkEnd.{map_at}
use Rattle.span_laws.proofs.Parts.{has_end_else, has_end_here, set_else}
use Rattle.span_laws.proofs.Start.{at_here, set_here as copy_here}
use Rattle.span_set.specs.Resets.{ResetsBelow}
use Rattle.span_table_tests.specs.Rows.{ArePlaced, HasPlaced, HasTurned, IsFreeDriver, IsIdleDriver, KeepsCached, KeepsPlaced, SeesBelow, UsesCached}

idle_part : IsIdle no_part
idle_part = record { sweeping = refl; held = refl; popped = refl; claimed = refl }

-- at the start no worker has anything; over variables, so that no list of parts is written out
free_start : (t : TableId) (workers n pages goal procs : ℕ) (w : Seen) → w ≡ record { table = t; number = n; away = []; caching = false; journal = None; view = first_view pages goal procs workers } → n ≡ 69 → workers ≡ 70 → IsFreeDriver t w
free_start t workers n pages goal procs w e is many_is = subst (IsFreeDriver t) (sym e) (record {
  works = (refl, refl);
  number = is;
  many = length-map-range_with_len (λ _. no_part) 0 workers ∙ many_is;
  idle = λ m x a. subst IsIdle (at_here no_part (range_with_len 0 workers) m x (subst (λ (l : List Part). get_elem? l m ≡ some x) (copy_here no_part workers n) a)) idle_part;
  fresh = λ m x a p h. absurd (true≢false (sym h ∙ ap (λ (y : Part). has p y.cached) (sym (at_here no_part (range_with_len 0 workers) m x (subst (λ (l : List Part). get_elem? l m ≡ some x) (copy_here no_part workers n) a)))));
  used = λ m x a p h. absurd (true≢false (sym h ∙ ap (λ (y : Part). has p y.cached) (sym (at_here no_part (range_with_len 0 workers) m x (subst (λ (l : List Part). get_elem? l m ≡ some x) (copy_here no_part workers n) a)))));
})

pub starts : (t : TableId) (pages goal procs : ℕ) (w : Seen) → w ≡ record { table = t; number = 69; away = []; caching = false; journal = None; view = first_view pages goal procs 70 } → IsFreeDriver t w
starts t pages goal procs w e = free_start t 70 69 pages goal procs w e refl refl

-- the own part of an idle driver
pub own_of : (t : TableId) (w : Seen) → IsIdleDriver t w → IsIdle w.view.own
own_of t w f = f.idle w.number w.view.own (set_here w.view.parts w.number w.view.own (let m = f.many in let n = f.number in omega arith))

module _ (t : TableId) (w : Seen) (f : IsFreeDriver t w) where
  pub idle_of : IsIdleDriver t w
  idle_of = record { works = f.works; number = f.number; many = f.many; idle = f.idle }

  low : w.number < length w.view.parts
  low = let m = f.many in let n = f.number in omega arith

  own_at : get_elem? (parts_of w.number w.view) w.number ≡ some w.view.own
  own_at = set_here w.view.parts w.number w.view.own low

  pub own_idle : IsIdle w.view.own
  own_idle = f.idle w.number w.view.own own_at

  pub own_fresh : IsFresh w.view.own
  own_fresh = f.fresh w.number w.view.own own_at

  pub own_used : UsesCached w.view.own
  own_used = f.used w.number w.view.own own_at

  -- the own part changes, and has nothing
  pub still_free : (known : Option (List Line)) (h : Part) (new : Seen) → new ≡ record w { journal = known; view = acts w.view h } → IsIdle h → IsFresh h → UsesCached h → IsFreeDriver t new
  still_free known h new e idle fresh used = subst (IsFreeDriver t) (sym e) (record {
    works = f.works;
    number = f.number;
    many = f.many;
    idle = λ m x a. each IsIdle idle f.idle m x a;
    fresh = λ m x a. each IsFresh fresh f.fresh m x a;
    used = λ m x a. each UsesCached used f.used m x a;
  })
    where
      each : (P : Part → Type 0) → P h → EachAt (parts_of w.number w.view) (λ m x. P x) → (m : ℕ) (x : Part) → get_elem? (parts_of w.number (acts w.view h)) m ≡ some x → P x
      each P own all m x a = dite (ℕ_discrete m w.number)
          (λ s. subst P (some-injective h x (sym (set_here w.view.parts w.number h low) ∙ ap (get_elem? (parts_of w.number (acts w.view h))) (sym s) ∙ a)) own)
          (λ d. all m x (set_else w.view.parts w.number w.view.own m d ∙ sym (set_else w.view.parts w.number h m d) ∙ a))

  -- a span is taken, gets its object and is pushed
  pub placed_free : (c j i p g : ℕ) (s b : Span) (w1 w2 w3 w4 : Seen) → w1 ≡ after_of (Takes c) s w → w2 ≡ after_of (Places 0) b w1 → w3 ≡ after_said (Claims j i p) (after_said (Reads 1 g) w2) → w4 ≡ after_said (Fills j p) w3 → s.page ≡ p → b.page ≡ p
      → IsFreeDriver t w4 × HasPlaced p w4 × KeepsPlaced w w4 × (w4.view.generation ≡ w.view.generation) × (w4.view.region ≡ w.view.region)
  placed_free c j i p g s b w1 w2 w3 w4 e1 e2 e3 e4 sp bp =
      let all : w4 ≡ after_said (Fills j p) (after_said (Claims j i p) (after_said (Reads 1 g) (after_of (Places 0) b (after_of (Takes c) s w)))) = e4 ∙ ap (after_said (Fills j p)) (e3 ∙ ap (λ (x : Seen). after_said (Claims j i p) (after_said (Reads 1 g) x)) (e2 ∙ ap (after_of (Places 0) b) e1)) in
      let o = own_idle in (
        still_free _ _ w4 all
            (record { sweeping = o.sweeping; held = ap (λ (xs : List ℕ). erase p (xs ++ s.page ∷ [])) o.held ∙ ap (λ (q : ℕ). erase p (q ∷ [])) sp ∙ gone p; popped = o.popped; claimed = refl }) own_fresh (λ q l. let z = own_used q l in omega arith),
        subst (HasPlaced p) (sym all) (let z = ap one_if (let y : (eqb b.page p && eqb 0 0) ≡ true = rw (eq-eqb b.page p bp, eq-eqb 0 0 refl) refl in y) in omega arith),
        λ q k h. subst (λ (x : Seen). 0 < many (is_placing_at q k) x.view.own.log) (sym all) (omega arith),
        ap (λ (x : Seen). x.view.generation) all,
        ap (λ (x : Seen). x.view.region) all,
      )
    where
      gone : (q : ℕ) → erase q (q ∷ []) ≡ []
      gone q = rw (eq-eqb q q refl) refl

-- a page alone in a list
pub alone : (q p : ℕ) (xs : List ℕ) → xs ≡ p ∷ [] → has q xs ≡ true → q ≡ p
alone q p xs e h = dite (ℕ_discrete q p) (λ same. same) (λ d. absurd (true≢false (sym h ∙ ap (has q) e ∙ has_end_else q p [] d)))

-- a driver that has cached nothing takes a span, caches it and places its object
module _ (t : TableId) (w : Seen) (f : IsFreeDriver t w) (none : w.view.own.cached ≡ []) where
  pub cached_free : (c p : ℕ) (s b : Span) (w1 w2 w3 : Seen) → w1 ≡ after_of (Takes c) s w → w2 ≡ after_said (Caches p) w1 → w3 ≡ after_of (Places 0) b w2 → s.page ≡ p → b.page ≡ p
      → IsFreeDriver t w3 × (w3.view.generation ≡ w.view.generation) × (has p w3.view.own.cached ≡ true)
  cached_free c p s b w1 w2 w3 e1 e2 e3 sp bp =
      let all : w3 ≡ after_of (Places 0) b (after_said (Caches p) (after_of (Takes c) s w)) = e3 ∙ ap (after_of (Places 0) b) (e2 ∙ ap (after_said (Caches p)) e1) in
      let o = own_idle t w f in
      let one : w.view.own.cached ++ p ∷ [] ≡ p ∷ [] = ap (λ (xs : List ℕ). xs ++ p ∷ []) none in (
        still_free t w f _ _ w3 all
            (record { sweeping = o.sweeping; held = ap (λ (xs : List ℕ). erase p (xs ++ s.page ∷ [])) o.held ∙ ap (λ (q : ℕ). erase p (q ∷ [])) sp ∙ rw (eq-eqb p p refl) refl; popped = o.popped; claimed = o.claimed })
            (λ q l. ap (λ (x : ℕ). has x (w.view.own.fresh ++ p ∷ [])) (alone q p (w.view.own.cached ++ p ∷ []) one l) ∙ has_end_here p w.view.own.fresh)
            (λ q l. let z = ap one_if (eq-eqb b.page q (bp ∙ sym (alone q p (w.view.own.cached ++ p ∷ []) one l))) in omega arith),
        ap (λ (x : Seen). x.view.generation) all,
        ap (λ (x : Seen). has p x.view.own.cached) all ∙ has_end_here p w.view.own.cached,
      )

  gone : (q : ℕ) → erase q (q ∷ []) ≡ []
  gone q = rw (eq-eqb q q refl) refl

  -- before the object is placed
  pub may_place : (c : ℕ) (b : Body) (w1 w2 : Seen) → w1 ≡ after_of (Takes c) (span_of b) w → w2 ≡ after_said (Caches b.page) w1 → MayPlace w2.view.own b
  may_place c b w1 w2 e1 e2 =
      let all : w2 ≡ after_said (Caches b.page) (after_of (Takes c) (span_of b) w) = e2 ∙ ap (after_said (Caches b.page)) e1 in
      let o = own_idle t w f in
      subst (λ (x : Seen). MayPlace x.view.own b) (sym all) (inl (
        has_end_here b.page w.view.own.cached,
        has_end_here b.page w.view.own.fresh,
        λ q s h at same. alone q b.page (w.view.own.cached ++ b.page ∷ []) (ap (λ (xs : List ℕ). xs ++ b.page ∷ []) none) h,
        λ q h l. absurd (true≢false (sym h ∙ ap (has q) (ap (λ (xs : List ℕ). erase b.page (xs ++ b.page ∷ [])) o.held ∙ gone b.page))),
      ))

-- one look more
module _ (old now : Seen) (n : ℕ) (s : SeesBelow n old now) where
  pub sees_skips : is_swept_set old.view.generation n ≡ true → SeesBelow (n + 1) old now
  sees_skips part = record {
    said = s.said;
    seen = λ k l u. dite (ℕ_discrete k n) (λ e. absurd (true≢false (sym part ∙ ap (is_swept_set old.view.generation) (sym e) ∙ u))) (λ d. s.seen k (omega arith) u);
    view = s.view;
  }

  pub sees_more : (h t : ℕ) (new : Seen) → h ≡ t → new ≡ after_said (Looks n h t) now → SeesBelow (n + 1) old new
  sees_more h t new same e = record {
    said = Looked n h t ∷ s.said;
    seen = λ k l u. dite (ℕ_discrete k n)
        (λ q. let z = ap one_if (let y : (eqb n k && eqb h t) ≡ true = rw (eq-eqb n k (sym q), eq-eqb h t same) refl in y) in omega arith)
        (λ d. let z = s.seen k (omega arith) u in omega arith);
    view = e ∙ ap (after_said (Looks n h t)) s.view;
  }

pub sees_none : (old now : Seen) → now ≡ after_said (Reads 1 old.view.generation) old → SeesBelow 0 old now
sees_none old now e = record { said = []; seen = λ k l u. absurd (omega arith); view = e }

-- the log has no pop of a new span's page from the full set of large spans, after its object was placed
pub untouched_pops : (w w1 w2 : Seen) (s b : Span) (i c : ℕ) → w1 ≡ after_of (Takes c) s w → w2 ≡ after_of (Places i) b w1 → (p q : ℕ) → q ≡ p → IsUntouched w.view.generation w.view.own p → many (is_pop_of (swept_set w2.view.generation 0 1) q) w2.view.own.log ≡ 0
untouched_pops w w1 w2 s b i c e1 e2 p q same u =
    let all : w2 ≡ after_of (Places i) b (after_of (Takes c) s w) = e2 ∙ ap (after_of (Places i) b) e1 in
    subst (λ (x : Seen). many (is_pop_of (swept_set x.view.generation 0 1) q) x.view.own.log ≡ 0) (sym all)
    (let z = subst (λ (r : ℕ). many (is_pop_of (swept_set w.view.generation 0 1) r) w.view.own.log ≡ 0) (sym same) (u.pops (swept_set w.view.generation 0 1) (swept_low w.view.generation 0 1 (omega arith) (omega arith)) (swept_is w.view.generation 0 1 (omega arith))) in omega arith)

has_behind : (m : ℕ × ℕ) (rest : List (ℕ × ℕ)) (p k : ℕ) → has_pair rest p k ≡ true → has_pair (m ∷ rest) p k ≡ true
has_behind m rest p k e = elim (cases_Bool (eqb m.0 p && eqb m.1 k)) [ inl on ↦ rw on refl | inr off ↦ rw off e ]

-- pairs at which one worker's log placed objects are known
known_placed : (n : ℕ) (v : View) (i : ℕ) (h : Part) → get_elem? (parts_of n v) i ≡ some h → (pairs : List (ℕ × ℕ)) → ((p k : ℕ) → has_pair pairs p k ≡ true → 0 < many (is_placing_at p k) h.log) → AllByRecursion (IsKnown n v) pairs
known_placed n v i h at [] all = tt
known_placed n v i h at (m ∷ rest) all = (inr (i, h, at, all m.0 m.1 (rw (eq-eqb m.0 m.0 refl, eq-eqb m.1 m.1 refl) refl)), known_placed n v i h at rest (λ p k e. all p k (has_behind m rest p k e)))

-- the pair of one placed object
pub placed_one : (page : ℕ) (w : Seen) → HasPlaced page w → ArePlaced ((page, 0) ∷ []) w
placed_one page w placed p k h = elim (cases_Bool (eqb page p)) [
  | inl on ↦ elim (cases_Bool (eqb 0 k)) [
    | inl on' ↦ subst (λ (x : ℕ). 0 < many (is_placing_at x k) w.view.own.log) (eqb-true page p on) (subst (λ (x : ℕ). 0 < many (is_placing_at page x) w.view.own.log) (eqb-true 0 k on') placed)
    | inr off ↦ absurd (true≢false (sym (rw (on, off) at h)))
  ]
  | inr off ↦ absurd (true≢false (sym (rw off at h)))
]

-- all unswept sets were seen empty
pub sees_empty : (w w1 : Seen) → SeesBelow 544 w w1 → (k : ℕ) → k < 544 → is_swept_set w1.view.generation k ≡ false → 0 < many (is_seen_empty k) w1.view.own.log
sees_empty w w1 s k l u = let z = s.seen k l (ap (λ (x : Seen). is_swept_set x.view.generation k) (sym s.view) ∙ u) in
    subst (λ (x : Seen). 0 < many (is_seen_empty k) x.view.own.log) (sym s.view) (let y = many-append (is_seen_empty k) s.said (after_said (Reads 1 w.view.generation) w).view.own.log in omega arith)

-- the driver saw all unswept sets empty
module _ (t : TableId) (w w1 : Seen) (f : IsFreeDriver t w) (s : SeesBelow 544 w w1) where
  pub seen_table : w1.table ≡ t
  seen_table = ap (λ (x : Seen). x.table) s.view ∙ f.works.0

  pub seen_alone : w1.away ≡ []
  seen_alone = ap (λ (x : Seen). x.away) s.view ∙ f.works.1

  pub seen_empty : (k : ℕ) → k < 544 → is_swept_set w1.view.generation k ≡ false → 0 < many (is_seen_empty k) w1.view.own.log
  seen_empty = sees_empty w w1 s

  pub seen_free : IsFreeDriver t w1
  seen_free = let o = own_idle t w f in still_free t w f _ _ w1 s.view (record { sweeping = o.sweeping; held = o.held; popped = o.popped; claimed = o.claimed }) (own_fresh t w f)
      (λ p l. let z = own_used t w f p l in let y = many-append (is_placing_in p) s.said (after_said (Reads 1 w.view.generation) w).view.own.log in omega arith)

-- and all of them were reset
module _ (t : TableId) (w w1 w2 : Seen) (f : IsFreeDriver t w) (s : SeesBelow 544 w w1) (r : ResetsBelow 544 w1 w2) where
  pub reset_free : IsFreeDriver t w2
  reset_free = let o = own_idle t w1 (seen_free t w w1 f s) in still_free t w1 (seen_free t w w1 f s) _ _ w2 r.view (record { sweeping = o.sweeping; held = o.held; popped = o.popped; claimed = o.claimed }) (own_fresh t w1 (seen_free t w w1 f s))
      (λ p l. let z = own_used t w1 (seen_free t w w1 f s) p l in omega arith)

  reset_generation : w2.view.generation ≡ w1.view.generation
  reset_generation = ap (λ (x : Seen). x.view.generation) r.view

  at_rest : IsAtRest w2.number w2.view
  at_rest = record {
    driver = reset_free.number;
    idle = reset_free.idle;
    fresh = reset_free.fresh;
    empty = λ k l u. subst (λ (x : Seen). 0 < many (is_seen_empty k) x.view.own.log) (sym r.view)
        (let z = seen_empty t w w1 f s k l (ap (λ (x : Seen). is_swept_set x.view.generation k) (sym r.view) ∙ u) in omega arith);
  }

  pub may_settle : MaySettle w2
  may_settle = record { rest = at_rest; used = reset_free.used }

  pub may_mark : (pairs : List (ℕ × ℕ)) (w3 : Seen) → ArePlaced pairs w → w.view.generation ≡ 4 → (past : List Line) → w3 ≡ knows past w2 → MayMark w3 pairs
  may_mark pairs w3 placed four past e = subst (λ (x : Seen). MayMark x pairs) (sym e) (record {
    rest = record {
      driver = told.number;
      idle = told.idle;
      fresh = told.fresh;
      empty = at_rest.empty;
    };
    reset = λ k l u. r.unswept k l (ap (λ (x : Seen). is_swept_set x.view.generation k) (sym r.view) ∙ u);
    early = (let z = generation in omega arith);
    known = known_placed w2.number (knows past w2).view w2.number (knows past w2).view.own (set_here w2.view.parts w2.number _ low_two) pairs now;
    told = (past, refl);
  })
    where
      told : IsFreeDriver t (knows past w2)
      told = let o = own_idle t w2 reset_free in still_free t w2 reset_free _ _ (knows past w2) refl (record { sweeping = o.sweeping; held = o.held; popped = o.popped; claimed = o.claimed }) (own_fresh t w2 reset_free) (own_used t w2 reset_free)

      low_two : w2.number < length w2.view.parts
      low_two = let m = reset_free.many in let n = reset_free.number in omega arith

      generation : w2.view.generation ≡ 4
      generation = reset_generation ∙ ap (λ (x : Seen). x.view.generation) s.view ∙ four

      now : (p k : ℕ) → has_pair pairs p k ≡ true → 0 < many (is_placing_at p k) w2.view.own.log
      now p k h = subst (λ (x : Seen). 0 < many (is_placing_at p k) x.view.own.log) (sym r.view)
          (let z = subst (λ (x : Seen). 0 < many (is_placing_at p k) x.view.own.log) (sym s.view) (let y = many-append (is_placing_at p k) s.said (after_said (Reads 1 w.view.generation) w).view.own.log in let o = placed p k h in omega arith) in omega arith)

  pub turned : (pairs : List (ℕ × ℕ)) (w3 : Seen) → w.view.generation ≡ 4 → (past : List Line) → w3 ≡ knows past w2 → (w4 : Seen) → w4 ≡ after_next pairs w3 → HasTurned t pairs w4
  turned pairs w3 four past e w4 e4 = subst (HasTurned t pairs) (sym (e4 ∙ ap (after_next pairs) e)) (record {
    idle = record {
      works = reset_free.works;
      number = reset_free.number;
      many = length-map w2.view.parts rested ∙ reset_free.many;
      idle = λ m x a. (let z = map_at rested (parts_of w2.number (knows past w2).view) m x (subst (λ (l : List Part). get_elem? l m ≡ some x) parts_map a) in let i = told.idle m z.0 z.1 in
          subst IsIdle z.2 (record { sweeping = i.sweeping; held = i.held; popped = i.popped; claimed = i.claimed }));
    };
    generation = ap (λ (g : ℕ). g + 2) (reset_generation ∙ ap (λ (x : Seen). x.view.generation) s.view ∙ four);
    marks = refl;
  })
    where
      told : IsFreeDriver t (knows past w2)
      told = let o = own_idle t w2 reset_free in still_free t w2 reset_free _ _ (knows past w2) refl (record { sweeping = o.sweeping; held = o.held; popped = o.popped; claimed = o.claimed }) (own_fresh t w2 reset_free) (own_used t w2 reset_free)

      parts_map : parts_of w2.number (after_next pairs (knows past w2)).view ≡ map rested (parts_of w2.number (knows past w2).view)
      parts_map = sym (map-set rested w2.view.parts w2.number (knows past w2).view.own)

  pub turned_region : (pairs : List (ℕ × ℕ)) (w3 : Seen) (past : List Line) → w3 ≡ knows past w2 → (w4 : Seen) → w4 ≡ after_next pairs w3 → w4.view.region ≡ w.view.region
  turned_region pairs w3 past e w4 e4 = ap (λ (x : Seen). x.view.region) (e4 ∙ ap (after_next pairs) e) ∙ ap (λ (x : Seen). x.view.region) r.view ∙ ap (λ (x : Seen). x.view.region) s.view

  pub turned_cached : (pairs : List (ℕ × ℕ)) (w3 : Seen) (past : List Line) → w3 ≡ knows past w2 → (w4 : Seen) → w4 ≡ after_next pairs w3 → KeepsCached w w4
  turned_cached pairs w3 past e w4 e4 = record {
    cached = ap (λ (x : Seen). x.view.own.cached) (e4 ∙ ap (after_next pairs) e) ∙ ap (λ (x : Seen). x.view.own.cached) r.view ∙ ap (λ (x : Seen). x.view.own.cached) s.view;
    spans = ap (λ (x : Seen). x.view.own.spans) (e4 ∙ ap (after_next pairs) e) ∙ ap (λ (x : Seen). x.view.own.spans) r.view ∙ ap (λ (x : Seen). x.view.own.spans) s.view;
  }

-- nor has it after the span was acquired and released
pub unpopped_swept : (w w1 w2 : Seen) (s b : Span) → w1 ≡ after_of Acquires s w → w2 ≡ after_of Releases b w1 → (p q : ℕ) → q ≡ p → IsUntouched w.view.generation w.view.own p → many (is_pop_of (swept_set w2.view.generation 0 1) q) w2.view.own.log ≡ 0
unpopped_swept w w1 w2 s b e1 e2 p q same u =
    let all : w2 ≡ after_of Releases b (after_of Acquires s w) = e2 ∙ ap (after_of Releases b) e1 in
    subst (λ (x : Seen). many (is_pop_of (swept_set x.view.generation 0 1) q) x.view.own.log ≡ 0) (sym all)
    (let z = subst (λ (r : ℕ). many (is_pop_of (swept_set w.view.generation 0 1) r) w.view.own.log ≡ 0) (sym same) (u.pops (swept_set w.view.generation 0 1) (swept_low w.view.generation 0 1 (omega arith) (omega arith)) (swept_is w.view.generation 0 1 (omega arith))) in omega arith)

-- the pair of the marked page
pub marked_first : (marks : List (ℕ × ℕ)) (page q : ℕ) → marks ≡ (page, 0) ∷ [] → q ≡ page → has_pair marks q 0 ≡ true
marked_first marks page q e same = ap (λ (l : List (ℕ × ℕ)). has_pair l q 0) e ∙ rw (eq-eqb page q (sym same)) refl

none_counted : (n : ℕ) (f : ℕ → Bool) → ((k : ℕ) → f k ≡ false) → count_below n f ≡ 0
unfolding count_below
none_counted zero f h = refl
none_counted (suc n) f h = let r = none_counted n f h in let z = ap Rattle.span_state.specs.Bits.one_if (h n) in omega arith

-- the log of a worker that swept a span with nothing kept ends so
pub ends_empty : (w1 w2 : Seen) (b : Body) → w2 ≡ after_of Releases (span_of b) w1 → ((k : ℕ) → allocated b k ≡ false) → EndsSweptEmpty b.page w2.view.own.log
ends_empty w1 w2 b e none = subst (λ (x : Seen). EndsSweptEmpty b.page x.view.own.log) (sym e) (
  [],
  w1.view.own.log,
  record { page = b.page; pages = b.pages; kept = count_below b.count (bit_of b.bits); freed = count_below b.count (λ k. bit_of (unwrap_or (span_at b.page w1.view.own.spans) no_span).bits k && not (bit_of b.bits k)) },
  refl,
  refl,
  none_counted b.count (allocated b) none,
  refl,
  refl,
)
