-- How the marks of the mark end before become those of a mark end.
use Rattle.std.proofs.Common.{◌≡◌, ℕ, suc, ◌+◌, ◌-◌, ◌<◌, ◌≤◌, Bool, true, false, not, ◌&&◌, eqb, List, [], ◌++◌, length, refl, sym, ◌∙◌, ap, subst, arith, inl, inr}
use Rattle.std.proofs.lemmas.Bool.{and_from, and_parts, cases_Bool, cases_lt, eq-eqb, eqb-true}
use Rattle.span_state.specs.MarkSet.{MarkSet, dead_of, has_pair, is_marked}
use Rattle.trace_reader.specs.declared.trace.Trace.{Trace}
use Rattle.cycle_history.specs.declared.Answer.{Answer}
use Rattle.cycle_history.specs.Requests.{marked_by}
use Rattle.cycle_history.specs.Places.{LiesAt}
use Rattle.cycle_history.specs.Marked.{AreMarksBelow, ArePlacesOf, IsMarkedAt, LieApart}
use Rattle.cycle_history.specs.Before.{IsLimited, objects_before}
use Rattle.cycle_history.specs.MarkedLoops.{AreKept}
use Rattle.cycle_history.proofs.Found.{lies-less, lies-more}
use Rattle.cycle_history.proofs.Rising.{marked-early, marked-may}
use Rattle.cycle_history.proofs.Settled.{lies-one}

-- ---- the marks of a mark end

-- before mark end 1 nothing is marked
pub no-marks : (t : Trace) (answers : List Answer) (marks : MarkSet) → marks.pairs ≡ [] → ArePlacesOf t 0 answers marks
no-marks t answers marks none page k =
    let off : is_marked marks page k ≡ false = ap (λ (ps : List (ℕ × ℕ)). has_pair ps page k) none in (
      (λ on. absurd cc),
      (λ at. (let on = at.1.marked in absurd cc)),
    )

-- the answers of later objects change nothing
pub marks-grow : (t : Trace) (m : ℕ) (answers more : List Answer) (marks : MarkSet) → IsLimited t → length answers ≡ objects_before t m → ArePlacesOf t m answers marks
    → ArePlacesOf t m (answers ++ more) marks
marks-grow t m answers more marks limited all are page k = (
  (λ on. (let at = (are page k).0 on in (at.0, record { marked = at.1.marked; lies = lies-more t answers more at.0 page k at.1.lies }))),
  (λ at. (
      let early = marked-early t m at.0 limited.cycles at.1.marked in
      (are page k).1 (at.0, record { marked = at.1.marked; lies = lies-less t answers more at.0 page k (omega arith) at.1.lies }))),
)

-- ---- from one mark end to the next

-- at first they are those of the mark end before
pub kept-first : (t : Trace) (m : ℕ) (answers : List Answer) (marks : MarkSet) → ArePlacesOf t (m - 1) answers marks → ((page : ℕ) → dead_of marks page ≡ []) → AreKept t m answers 0 marks
kept-first t m answers marks are dead = record {
  places = λ page k. (
    (λ on. (let at = (are page k).0 on in (at.0, inl (omega arith), at.1))),
    (λ at. (are page k).1 (at.0, at.2)),
  );
  dead = dead;
}

-- the bound moves past objects that lie nowhere, that the mark end before didn't mark, or that this one marks
pub kept-past : (t : Trace) (m : ℕ) (answers : List Answer) (low high : ℕ) (marks : MarkSet) → low ≤ high
    → ((i : ℕ) → low ≤ i → i < high → (page k : ℕ) → IsMarkedAt t (m - 1) answers page k i → marked_by t m i ≡ true)
    → AreKept t m answers low marks → AreKept t m answers high marks
kept-past t m answers low high marks order stays kept = record {
  places = λ page k. (
    (λ on. (
        let at = (kept.places page k).0 on in
        elim at.1 [
          | inl late ↦ elim (cases_lt at.0 high) [
            | inl lt ↦ (at.0, inr (stays at.0 late lt page k at.2), at.2)
            | inr ge ↦ (at.0, inl ge, at.2)
          ]
          | inr on' ↦ (at.0, inr on', at.2)
        ])),
    (λ at. elim at.1 [
      | inl late ↦ (kept.places page k).1 (at.0, inl (omega arith), at.2)
      | inr on' ↦ (kept.places page k).1 (at.0, inr on', at.2)
    ]),
  );
  dead = kept.dead;
}

-- the place of an object that this mark end doesn't mark is unmarked
pub kept-removed : (t : Trace) (m : ℕ) (answers : List Answer) (o page index : ℕ) (marks new : MarkSet) → LieApart t m answers
    → marked_by t m o ≡ false → IsMarkedAt t (m - 1) answers page index o
    → ((q k : ℕ) → is_marked new q k ≡ (is_marked marks q k && not (eqb q page && eqb k index))) → new.deaths ≡ marks.deaths
    → AreKept t m answers o marks → AreKept t m answers (o + 1) new
kept-removed t m answers o page index marks new apart off at removed same kept = record {
  places = λ q k. (
    (λ on. (
        let parts = and_parts (is_marked marks q k) (not (eqb q page && eqb k index)) (sym (removed q k) ∙ on) in
        let x = (kept.places q k).0 parts.0 in
        elim x.1 [
          | inr on' ↦ (x.0, inr on', x.2)
          | inl late ↦ elim (cases_lt o x.0) [
            | inl later ↦ (x.0, inl (omega arith), x.2)
            | inr ge ↦ absurd (
                let is : x.0 ≡ o = omega arith in
                let one = lies-one t answers o q page k index (subst (λ (y : ℕ). LiesAt t answers y q k) is x.2.lies) at.lies in
                let here : (eqb q page && eqb k index) ≡ true = and_from (eqb q page) (eqb k index) (eq-eqb q page one.0) (eq-eqb k index one.1) in
                let not-here = parts.1 in
                cc)
          ]
        ])),
    (λ x. (
        let there : is_marked marks q k ≡ true = elim x.1 [
          | inl late ↦ (kept.places q k).1 (x.0, inl (omega arith), x.2)
          | inr on' ↦ (kept.places q k).1 (x.0, inr on', x.2)
        ] in
        elim (cases_Bool (eqb q page && eqb k index)) [
          | inr isnt ↦ removed q k ∙ rw (there, isnt) refl
          | inl here ↦ absurd (
              let parts = and_parts (eqb q page) (eqb k index) here in
              let eq = eqb-true q page parts.0 in
              let ek = eqb-true k index parts.1 in
              let lies : LiesAt t answers x.0 page index = subst (λ (y : ℕ). LiesAt t answers x.0 page y) ek (subst (λ (y : ℕ). LiesAt t answers x.0 y k) eq x.2.lies) in
              let is : x.0 ≡ o = apart x.0 o page index (inr x.2.marked) (inr at.marked) lies at.lies in
              elim x.1 [
                | inl late ↦ omega arith
                | inr on' ↦ (let on : marked_by t m o ≡ true = ap (λ (i : ℕ). marked_by t m i) (sym is) ∙ on' in cc)
              ])
        ])),
  );
  dead = λ q. ap (λ (deaths : List (ℕ × List ℕ)). dead_of (record { pairs = []; deaths = deaths }) q) same ∙ kept.dead q;
}

-- in the end they are the marked places of the objects before the cycle
pub kept-all : (t : Trace) (m first : ℕ) (answers : List Answer) (sampled : List Bool) (buckets : List ℕ) (marks : MarkSet) → IsLimited t → 1 ≤ m → first ≡ objects_before t (m - 1)
    → AreKept t m answers first marks → AreMarksBelow t m answers sampled buckets first 0 marks
kept-all t m first answers sampled buckets marks limited some is kept = record {
  places = λ page k. (
    (λ on. (
        let at = (kept.places page k).0 on in
        let early = marked-early t (m - 1) at.0 limited.cycles at.2.marked in
        elim at.1 [
          | inl late ↦ absurd (omega arith)
          | inr on' ↦ (at.0, (omega arith), record { marked = on'; lies = at.2.lies })
        ])),
    (λ at. (
        let next : suc (m - 1) ≡ m = omega arith in
        let may = marked-may t (m - 1) at.0 limited.cycles (ap (λ (n : ℕ). marked_by t n at.0) next ∙ at.2.marked) in
        let lt = at.1 in
        elim may [
          | inl old ↦ (kept.places page k).1 (at.0, inr at.2.marked, record { marked = old; lies = at.2.lies })
          | inr new ↦ absurd (let low = new.0 in omega arith)
        ])),
  );
  dead = λ page. (
      let none = kept.dead page in
      rw none (record {
        ids = [];
        falling = tt;
        each = λ i. ((λ h. absurd h), (λ h. (let lt = h.0 in absurd (omega arith))));
        is = refl;
      }));
}
