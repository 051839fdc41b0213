-- Traces that are alike before a mark end say the same of what stands before it.
use Rattle.std.proofs.Common.{◌≡◌, ℕ, zero, suc, ◌-◌, ◌*◌, ◌<◌, ◌≤◌, Bool, List, [], ◌∷◌, length, take, drop, Option, Some, None, refl, sym, ◌∙◌, ap, subst, arith, inl, inr}
use Rattle.std.specs.List.{flat_map, slice_get}
use Rattle.std.proofs.lemmas.Option.{slice_get_within}
use Rattle.std.proofs.lemmas.List.{take-append-drop, take-take}
use Rattle.std.proofs.lemmas.List.Concat.{flat_map-append}
use Rattle.span_state.specs.MarkSet.{MarkSet}
use Rattle.trace_reader.specs.declared.trace.Header.{Header}
use Rattle.trace_reader.specs.declared.trace.Trace.{Trace}
use Rattle.trace_reader.specs.declared.trace.Cycle.{Cycle}
use Rattle.trace_reader.specs.declared.trace.Event.{Event}
use Rattle.trace_reader.specs.declared.span.Span.{Span}
use Rattle.trace_reader.specs.Limits.{events_of}
use Rattle.cycle_history.specs.declared.Answer.{Answer}
use Rattle.cycle_history.specs.declared.Answer.TheVariants.{Placed}
use Rattle.cycle_history.specs.declared.places.Place.{Place}
use Rattle.cycle_history.specs.Requests.{is_within, marked_by, region_of, spans_after}
use Rattle.cycle_history.specs.Before.{AreAlike, ArePlaces, objects_before}
use Rattle.cycle_history.specs.Found.{AreFound, IsFound}
use Rattle.cycle_history.specs.Marked.{AreMarksOf, ArePlacesOf, HasDied, IsMarkedAt, LieApart, LivedBefore}
use Rattle.cycle_history.specs.Places.{LiesAt}
use Rattle.cycle_history.proofs.Found.{get-front}

pub alike-sym : (m : ℕ) (t u : Trace) → AreAlike m t u → AreAlike m u t
alike-sym m t u alike = record { header = sym alike.header; cycles = sym alike.cycles }

-- ---- objects

abbrev events_in : List Cycle → List Event
events_in cycles = flat_map (λ (c : Cycle). c.events) cycles

pub objects-alike : (m k : ℕ) (t u : Trace) → k ≤ m → AreAlike m t u → objects_before t k ≡ objects_before u k
objects-alike m k t u le alike =
    ap (λ (cs : List Cycle). length (events_in cs)) (sym (take-take k m t.cycles le) ∙ ap (λ (cs : List Cycle). take k cs) alike.cycles ∙ take-take k m u.cycles le)

event-front : (t : Trace) (m i : ℕ) → i < objects_before t m → slice_get (events_of t) i ≡ slice_get (events_in (take m t.cycles)) i
event-front t m i lt =
    ap (λ (cs : List Cycle). slice_get (events_in cs) i) (sym (take-append-drop m t.cycles))
    ∙ ap (λ (es : List Event). slice_get es i) (flat_map-append (λ (x : Cycle). x.events) (take m t.cycles) (drop m t.cycles))
    ∙ get-front (events_in (take m t.cycles)) (events_in (drop m t.cycles)) i lt

pub event-alike : (m i : ℕ) (t u : Trace) → i < objects_before t m → AreAlike m t u → slice_get (events_of t) i ≡ slice_get (events_of u) i
event-alike m i t u lt alike =
    let same = objects-alike m m t u (omega arith) alike in
    event-front t m i lt ∙ ap (λ (cs : List Cycle). slice_get (events_in cs) i) alike.cycles ∙ sym (event-front u m i (omega arith))

-- ---- marks

spans-front : (cs : List Cycle) (k m : ℕ) → k < m → spans_after k cs ≡ spans_after k (take m cs)
spans-front cs k zero lt = absurd (omega arith)
spans-front [] k (suc m) lt = refl
spans-front (c ∷ cs) zero (suc m) lt = refl
spans-front (c ∷ cs) (suc k) (suc m) lt = spans-front cs k m (omega arith)

pub marked-alike : (m k i : ℕ) (t u : Trace) → k ≤ m → AreAlike m t u → marked_by t k i ≡ marked_by u k i
marked-alike m zero i t u le alike = refl
marked-alike m (suc k) i t u le alike =
    ap (λ (ss : List Span). is_within ss i)
    (spans-front t.cycles k m (omega arith) ∙ ap (λ (cs : List Cycle). spans_after k cs) alike.cycles ∙ sym (spans-front u.cycles k m (omega arith)))

-- ---- places

pub lies-alike : (m i page k : ℕ) (t u : Trace) (answers : List Answer) → length answers ≤ objects_before t m → AreAlike m t u → LiesAt t answers i page k → LiesAt u answers i page k
lies-alike m i page k t u answers le alike lies =
    let lt = slice_get_within answers i (Placed lies.address) lies.answered in
    record {
      event = lies.event;
      address = lies.address;
      asked = sym (event-alike m i t u (omega arith) alike) ∙ lies.asked;
      answered = lies.answered;
      place = lies.place;
    }

pub places-alike : (m : ℕ) (t u : Trace) (answers : List Answer) → length answers ≤ objects_before t m → AreAlike m t u → ArePlaces t answers → ArePlaces u answers
places-alike m t u answers le alike are i address at =
    let place = are i address at in
    let region : region_of t ≡ region_of u = ap (λ (h : Header). 512 * h.chunks) alike.header in
    (place.0, place.1, subst (λ (n : ℕ). place.0 < n) region place.2, lies-alike m i place.0 place.1 t u answers le alike place.3)

-- ---- in both traces

-- two traces that are alike before mark end m, and answers of objects before it
pub record Both (m : ℕ) (t u : Trace) (answers : List Answer) : Type 0 where
  pub alike : AreAlike m t u
  pub inside : length answers ≤ objects_before t m

pub both-sym : (m : ℕ) (t u : Trace) (answers : List Answer) → Both m t u answers → Both m u t answers
both-sym m t u answers both =
    let same = objects-alike m m t u (omega arith) both.alike in
    let le = both.inside in
    record { alike = alike-sym m t u both.alike; inside = omega arith }

lies-both : (m i page k : ℕ) (t u : Trace) (answers : List Answer) → Both m t u answers → LiesAt t answers i page k → LiesAt u answers i page k
lies-both m i page k t u answers both lies = lies-alike m i page k t u answers both.inside both.alike lies

is-found-alike : (m i : ℕ) (t u : Trace) (answers : List Answer) (found : Option Place) → Both m t u answers → IsFound t answers i found → IsFound u answers i found
is-found-alike m i t u answers None both none = λ page k lies. none page k (lies-both m i page k u t answers (both-sym m t u answers both) lies)
is-found-alike m i t u answers (Some place) both lies = lies-both m i place.page place.index t u answers both lies

pub found-alike : (m : ℕ) (t u : Trace) (answers : List Answer) (places : List (Option Place)) → Both m t u answers → AreFound t answers places → AreFound u answers places
found-alike m t u answers places both are i found at = is-found-alike m i t u answers found both (are i found at)

pub lived-alike : (m i : ℕ) (t u : Trace) → AreAlike m t u → LivedBefore t m i → LivedBefore u m i
lived-alike m i t u alike lived = elim lived [
  | inl late ↦ (let same = objects-alike m (m - 1) t u (omega arith) alike in inl (omega arith))
  | inr on ↦ inr (sym (marked-alike m (m - 1) i t u (omega arith) alike) ∙ on)
]

pub apart-alike : (m : ℕ) (t u : Trace) (answers : List Answer) → Both m t u answers → LieApart t m answers → LieApart u m answers
apart-alike m t u answers both apart i j page k a b x y =
    let back = both-sym m t u answers both in
    apart i j page k (lived-alike m i u t back.alike a) (lived-alike m j u t back.alike b) (lies-both m i page k u t answers back x) (lies-both m j page k u t answers back y)

-- ---- the marks of a mark end

marked-at-alike : (m n page k i : ℕ) (t u : Trace) (answers : List Answer) → n ≤ m → Both m t u answers → IsMarkedAt t n answers page k i → IsMarkedAt u n answers page k i
marked-at-alike m n page k i t u answers le both at =
    record { marked = sym (marked-alike m n i t u le both.alike) ∙ at.marked; lies = lies-both m i page k t u answers both at.lies }

pub places-of-alike : (m n : ℕ) (t u : Trace) (answers : List Answer) (marks : MarkSet) → n ≤ m → Both m t u answers → ArePlacesOf t n answers marks → ArePlacesOf u n answers marks
places-of-alike m n t u answers marks le both are page k = (
  (λ on. (let at = (are page k).0 on in (at.0, marked-at-alike m n page k at.0 t u answers le both at.1))),
  (λ at. (are page k).1 (at.0, marked-at-alike m n page k at.0 u t answers le (both-sym m t u answers both) at.1)),
)

died-alike : (m page i : ℕ) (t u : Trace) (answers : List Answer) (sampled : List Bool) → Both m t u answers → HasDied t m answers sampled page i → HasDied u m answers sampled page i
died-alike m page i t u answers sampled both died = record {
  is_sampled = died.is_sampled;
  lived = lived-alike m i t u both.alike died.lived;
  unmarked = sym (marked-alike m m i t u (omega arith) both.alike) ∙ died.unmarked;
  index = died.index;
  lies = lies-both m i page died.index t u answers both died.lies;
}

pub marks-alike : (m : ℕ) (t u : Trace) (answers : List Answer) (sampled : List Bool) (buckets : List ℕ) (marks : MarkSet) → Both m t u answers
    → AreMarksOf t m answers sampled buckets marks → AreMarksOf u m answers sampled buckets marks
marks-alike m t u answers sampled buckets marks both are = record {
  places = places-of-alike m m t u answers marks (omega arith) both are.places;
  dead = λ page. (
      let dead = are.dead page in
      record {
        ids = dead.ids;
        falling = dead.falling;
        each = λ i. (
          (λ here. died-alike m page i t u answers sampled both ((dead.each i).0 here)),
          (λ died. (dead.each i).1 (died-alike m page i u t answers sampled (both-sym m t u answers both) died)),
        );
        is = dead.is;
      });
}
