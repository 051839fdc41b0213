-- How the marks of the objects below a bound grow with the bound.
use Rattle.std.proofs.Common.{◌≡◌, ◌≢◌, ℕ, ◌+◌, ◌<◌, ◌≤◌, Bool, true, false, ◌||◌, ◌&&◌, eqb, List, [], ◌∷◌, ◌++◌, length, map, get_or, Option, Some, None, refl, sym, ◌∙◌, ap, subst, arith, ◌⊎◌, inl, inr}
use Rattle.std.proofs.lemmas.Bool.{cases_lt, cases_eq, or_cases, or_left, or_right, and_parts, and_from, eqb-true, eq-eqb}
use Rattle.std.proofs.lemmas.List.{reverse-append}
use Rattle.std.proofs.lemmas.Option.{slice_get_within, get_or_from_slice_get}
use Rattle.span_state.specs.MarkSet.{MarkSet, is_marked, dead_of, has_pair}
use Rattle.trace_reader.specs.declared.trace.Trace.{Trace}
use Rattle.trace_reader.specs.declared.trace.Event.{Event}
use Rattle.cycle_history.specs.declared.Answer.{Answer}
use Rattle.cycle_history.specs.declared.Answer.TheVariants.{Placed}
use Rattle.cycle_history.specs.declared.lookups.Walk.{Walk}
use Rattle.cycle_history.specs.declared.places.Place.{Place}
use Rattle.cycle_history.specs.Places.{IsPlace, LiesAt}
use Rattle.cycle_history.specs.Marked.{AreBuckets, AreMarksBelow, AreMarksOf, HasDied, IsMarkedAt}
use Rattle.cycle_history.specs.MarkedLoops.{IsBehind}
use Rattle.cycle_history.proofs.OnePlace.{place-one}

-- an object lies at one place
pub lies-one : (t : Trace) (answers : List Answer) (i p q j k : ℕ) → LiesAt t answers i p j → LiesAt t answers i q k → (p ≡ q) × (j ≡ k)
lies-one t answers i p q j k a b =
    let ea = a.asked in
    let eb = b.asked in
    let aa = a.answered in
    let ab = b.answered in
    let event : b.event ≡ a.event = cc in
    let address : b.address ≡ a.address = cc in
    let size : b.event.size ≡ a.event.size = ap (λ (e : Event). e.size) event in
    let same : IsPlace a.event.size a.address q k = subst (λ (s : ℕ). IsPlace s a.address q k) size (subst (λ (x : ℕ). IsPlace b.event.size x q k) address b.place) in
    place-one a.event.size a.address p q j k a.place same

-- what holds no place is none
pub none-of : (x : Option Place) → ((p : Place) → x ≢ Some p) → x ≡ None
none-of None h = cc
none-of (Some p) h = absurd (h p cc)

-- the bound of the places moves past objects that aren't marked
pub below-unmarked : (t : Trace) (m : ℕ) (answers : List Answer) (sampled : List Bool) (buckets : List ℕ) (low high late : ℕ) (marks : MarkSet) → low ≤ high
    → ((i : ℕ) → low ≤ i → i < high → (page k : ℕ) → ¬ IsMarkedAt t m answers page k i) → AreMarksBelow t m answers sampled buckets low late marks → AreMarksBelow t m answers sampled buckets high late marks
below-unmarked t m answers sampled buckets low high late marks le quiet below = record {
  places = λ page k. (
    (λ on. (let at = (below.places page k).0 on in (at.0, (let lt = at.1 in omega arith), at.2))),
    (λ at. elim (cases_lt at.0 low) [
      | inl lt ↦ (below.places page k).1 (at.0, lt, at.2)
      | inr ge ↦ absurd (quiet at.0 ge at.1 page k at.2)
    ]),
  );
  dead = below.dead;
}

-- the bound of the dead moves past objects that haven't died
pub below-undead : (t : Trace) (m : ℕ) (answers : List Answer) (sampled : List Bool) (buckets : List ℕ) (bound low high : ℕ) (marks : MarkSet) → low ≤ high
    → ((i : ℕ) → low ≤ i → i < high → (page : ℕ) → ¬ HasDied t m answers sampled page i) → AreMarksBelow t m answers sampled buckets bound low marks → AreMarksBelow t m answers sampled buckets bound high marks
below-undead t m answers sampled buckets bound low high marks le quiet below = record {
  places = below.places;
  dead = λ page. (let old = below.dead page in record {
    ids = old.ids;
    falling = old.falling;
    each = λ i. (
      (λ h. (let at = (old.each i).0 h in ((let lt = at.0 in omega arith), at.1))),
      (λ at. elim (cases_lt i low) [
        | inl lt ↦ (old.each i).1 (lt, at.1)
        | inr ge ↦ absurd (quiet i ge at.0 page at.1)
      ]),
    );
    is = old.is;
  });
}

-- so it does past objects that aren't sampled
pub below-unsampled : (t : Trace) (m : ℕ) (answers : List Answer) (sampled : List Bool) (buckets : List ℕ) (bound low high : ℕ) (marks : MarkSet) → low ≤ high
    → ((i : ℕ) → low ≤ i → i < high → get_or sampled i false ≡ false) → AreMarksBelow t m answers sampled buckets bound low marks → AreMarksBelow t m answers sampled buckets bound high marks
below-unsampled t m answers sampled buckets bound low high marks order unset below =
    below-undead t m answers sampled buckets bound low high marks order
    (λ i le lt page died. (
    let on = get_or_from_slice_get sampled i true false died.is_sampled in
    let off = unset i le lt in
    absurd cc))
    below

-- a walk that is behind a number is behind each above it
pub behind-more : (walk : Walk) (low high : ℕ) → low ≤ high → IsBehind walk low → IsBehind walk high
behind-more walk low high order behind = record { inside = behind.inside; below = λ k d lt. (let less = behind.below k d lt in omega arith) }

-- the list of buckets of one object more
bucket-more : (died more : ℕ → Type 0) (buckets list : List ℕ) (o b : ℕ) → AreBuckets died buckets list → ((i : ℕ) → died i → i < o) → b ≡ get_or buckets o 0
    → ((i : ℕ) → more i → (i ≡ o) ⊎ died i) → ((i : ℕ) → died i → more i) → more o → AreBuckets more buckets (list ++ b ∷ [])
bucket-more died more buckets list o b old early same from to one = record {
  ids = o ∷ old.ids;
  falling = ((λ j h. early j ((old.each j).0 h)), old.falling);
  each = λ i. (
    (λ h. elim h [ inl here ↦ subst (λ (x : ℕ). more x) here one | inr there ↦ to i ((old.each i).0 there) ]),
    (λ h. elim (from i h) [ inl here ↦ inl (sym here) | inr there ↦ inr ((old.each i).1 there) ]),
  );
  is = (
      let e = old.is in
      rw (e, same) (sym (reverse-append (get_or buckets o 0 ∷ []) (map (λ (i : ℕ). get_or buckets i 0) old.ids))));
}

-- the same list of the same objects
buckets-same : (died more : ℕ → Type 0) (buckets list : List ℕ) → AreBuckets died buckets list → ((i : ℕ) → more i → died i) → ((i : ℕ) → died i → more i) → AreBuckets more buckets list
buckets-same died more buckets list old from to = record {
  ids = old.ids;
  falling = old.falling;
  each = λ i. ((λ h. to i ((old.each i).0 h)), (λ h. (old.each i).1 (from i h)));
  is = old.is;
}

-- a marked object's place is added
pub below-marked : (t : Trace) (m : ℕ) (answers : List Answer) (sampled : List Bool) (buckets : List ℕ) (o late page index : ℕ) (marks new : MarkSet)
    → AreMarksBelow t m answers sampled buckets o late marks → IsMarkedAt t m answers page index o
    → ((q k : ℕ) → is_marked new q k ≡ (is_marked marks q k || (eqb q page && eqb k index))) → new.deaths ≡ marks.deaths
    → AreMarksBelow t m answers sampled buckets (o + 1) late new
below-marked t m answers sampled buckets o late page index marks new below at added same = record {
  places = λ q k. (
    (λ on. elim (or_cases (is_marked marks q k) (eqb q page && eqb k index) (sym (added q k) ∙ on)) [
      | inl old ↦ (let x = (below.places q k).0 old in (x.0, (let lt = x.1 in omega arith), x.2))
      | inr here ↦ (
          let parts = and_parts (eqb q page) (eqb k index) here in
          let eq = eqb-true q page parts.0 in
          let ek = eqb-true k index parts.1 in
          (o, omega arith, subst (λ (x : ℕ). IsMarkedAt t m answers q x o) (sym ek) (subst (λ (x : ℕ). IsMarkedAt t m answers x index o) (sym eq) at)))
    ]),
    (λ x. added q k ∙ elim (cases_lt x.0 o) [
      | inl lt ↦ or_left (is_marked marks q k) (eqb q page && eqb k index) ((below.places q k).1 (x.0, lt, x.2))
      | inr ge ↦ (
          let lt = x.1 in
          let is : x.0 ≡ o = omega arith in
          let one = lies-one t answers o q page k index (subst (λ (y : ℕ). LiesAt t answers y q k) is x.2.lies) at.lies in
          or_right (is_marked marks q k) (eqb q page && eqb k index) (and_from (eqb q page) (eqb k index) (eq-eqb q page one.0) (eq-eqb k index one.1)))
    ]),
  );
  dead = λ q. (
      let e : dead_of new q ≡ dead_of marks q = ap (λ (deaths : List (ℕ × List ℕ)). dead_of (record { pairs = []; deaths = deaths }) q) same in
      rw e (below.dead q));
}

-- a dead object's bucket is added
pub below-dead : (t : Trace) (m : ℕ) (answers : List Answer) (sampled : List Bool) (buckets : List ℕ) (bound o page b : ℕ) (marks new : MarkSet)
    → AreMarksBelow t m answers sampled buckets bound o marks → HasDied t m answers sampled page o → b ≡ get_or buckets o 0
    → dead_of new page ≡ dead_of marks page ++ b ∷ [] → ((q : ℕ) → q ≢ page → dead_of new q ≡ dead_of marks q) → new.pairs ≡ marks.pairs
    → AreMarksBelow t m answers sampled buckets bound (o + 1) new
below-dead t m answers sampled buckets bound o page b marks new below died same added others pairs = record {
  places = λ q k. (
      let e : is_marked new q k ≡ is_marked marks q k = ap (λ (ps : List (ℕ × ℕ)). has_pair ps q k) pairs in
      rw e (below.places q k));
  dead = λ q. elim (cases_eq q page) [
    | inl here ↦ (
        let e : dead_of new q ≡ dead_of marks page ++ b ∷ [] = ap (λ (x : ℕ). dead_of new x) here ∙ added in
        rw (e, here) (bucket-more (λ i. (i < o) × HasDied t m answers sampled page i) (λ i. (i < o + 1) × HasDied t m answers sampled page i) buckets (dead_of marks page) o b (below.dead page)
        (λ i h. h.0) same
        (λ i h. elim (cases_lt i o) [ inl lt ↦ inr (lt, h.1) | inr ge ↦ (let lt = h.0 in inl (omega arith)) ])
        (λ i h. ((let lt = h.0 in omega arith), h.1))
        ((omega arith), died)))
    | inr other ↦ (
        let e : dead_of new q ≡ dead_of marks q = others q other in
        rw e (buckets-same (λ i. (i < o) × HasDied t m answers sampled q i) (λ i. (i < o + 1) × HasDied t m answers sampled q i) buckets (dead_of marks q) (below.dead q)
        (λ i h. elim (cases_lt i o) [
          | inl lt ↦ (lt, h.1)
          | inr ge ↦ (
              let lt = h.0 in
              let is : i ≡ o = omega arith in
              let one = lies-one t answers o q page h.1.index died.index (subst (λ (y : ℕ). LiesAt t answers y q h.1.index) is h.1.lies) died.lies in
              absurd (other one.0))
        ])
        (λ i h. ((let lt = h.0 in omega arith), h.1))))
  ];
}

-- no objects
pub below-none : (t : Trace) (m : ℕ) (answers : List Answer) (sampled : List Bool) (buckets : List ℕ) (marks : MarkSet) → marks.pairs ≡ [] → ((page : ℕ) → dead_of marks page ≡ [])
    → AreMarksBelow t m answers sampled buckets 0 0 marks
below-none t m answers sampled buckets marks pairs dead = record {
  places = λ page k. (
      let e : is_marked marks page k ≡ false = ap (λ (ps : List (ℕ × ℕ)). has_pair ps page k) pairs in (
        (λ on. absurd cc),
        (λ x. (let lt = x.1 in absurd (omega arith))),
      ));
  dead = λ page. rw (dead page) (record {
    ids = [];
    falling = tt;
    each = λ i. ((λ h. absurd h), (λ h. (let lt = h.0 in absurd (omega arith))));
    is = refl;
  });
}

-- all objects
pub below-all : (t : Trace) (m : ℕ) (answers : List Answer) (sampled : List Bool) (buckets : List ℕ) (marks : MarkSet)
    → AreMarksBelow t m answers sampled buckets (length answers) (length answers) marks → AreMarksOf t m answers sampled buckets marks
below-all t m answers sampled buckets marks below = record {
  places = λ page k. (
    (λ on. (let x = (below.places page k).0 on in (x.0, x.2))),
    (λ x. (below.places page k).1 (x.0, slice_get_within answers x.0 (Placed x.1.lies.address) x.1.lies.answered, x.1)),
  );
  dead = λ page. buckets-same (λ i. (i < length answers) × HasDied t m answers sampled page i) (λ i. HasDied t m answers sampled page i) buckets (dead_of marks page) (below.dead page)
      (λ i h. (slice_get_within answers i (Placed h.lies.address) h.lies.answered, h))
      (λ i h. h.1);
}
