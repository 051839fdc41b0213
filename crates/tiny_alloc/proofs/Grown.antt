-- How a growing base goes on: what is so of the cycles before stays so, and in the end it is the base.
use Rattle.std.proofs.Common.{◌≡◌, ℕ, zero, suc, ◌+◌, ◌-◌, ◌<◌, ◌≤◌, true, ltb, List, [], ◌∷◌, ◌++◌, length, take, drop, get_or, Option, Some, None, refl, sym, ◌∙◌, ap, arith, inl, inr, length-append}
use Rattle.std.specs.List.{slice_get}
use Rattle.std.proofs.lemmas.Bool.{cases_Bool, cases_lt, cond-true, cond-false, ltb-true, lt-ltb}
use Rattle.std.proofs.lemmas.List.{get_or_past, length-drop, take_all}
use Rattle.std.proofs.lemmas.Option.{get_or_from_slice_get, slice_get_within}
use Rattle.trace_reader.specs.declared.span.Span.{Span}
use Rattle.trace_reader.specs.declared.trace.Trace.{Trace}
use Rattle.trace_reader.specs.declared.trace.Cycle.{Cycle}
use Rattle.trace_reader.specs.declared.trace.Event.{Event}
use Rattle.trace_reader.specs.declared.trace.MarkEnd.{MarkEnd}
use Rattle.trace_reader.specs.Limits.{AreCycles, events_of}
use Rattle.cycle_history.specs.declared.Answer.{Answer}
use Rattle.cycle_history.specs.Requests.{is_within, spans_after, spans_of}
use Rattle.cycle_history.specs.Before.{IsLimited, objects_before}
use Rattle.cycle_history.proofs.Found.{cycle-event, cycle-more}
use Rattle.cycle_history.proofs.Firsts.{before-rise}
use Rattle.cycle_history.proofs.Rising.{marked-early}
use Rattle.tiny_alloc.specs.declared.part.Part.{Part}
use Rattle.tiny_alloc.specs.declared.part.Part.TheVariants.{Other, Ride}
use Rattle.tiny_alloc.specs.Riders.{part_at}
use Rattle.tiny_alloc.specs.Base.{AreBased, as_version_2, based_answers, based_event, based_events, IsBasedEnd, IsKept}
use Rattle.tiny_alloc.specs.Marks.{HaveLeads}
use Rattle.tiny_alloc.specs.Parts.{AreParts, part_by}
use Rattle.tiny_alloc.specs.Growing.{AreNear, IsGrowing, lone_events, lone_part_of, part_so_far}
use Rattle.tiny_alloc.proofs.Alone.{events_in, lone-based}
use Rattle.tiny_alloc.proofs.Limited.{rider-near}
use Rattle.tiny_alloc.proofs.Listed.{answers-by, cycles-next}
use Rattle.tiny_alloc.proofs.Parted.{parts-all}
use Rattle.tiny_alloc.proofs.Requested.{before}

-- ---- parts that agree below an object

abbrev AgreeBelow : (ℕ → Part) → (ℕ → Part) → ℕ → Type 0
AgreeBelow f g m = (i : ℕ) → i < m → f i ≡ g i

pub events-agree : (f g : ℕ → Part) (m n : ℕ) (es : List Event) → AgreeBelow f g m → n + length es ≤ m → based_events f n es ≡ based_events g n es
events-agree f g m n [] same le = refl
events-agree f g m n (e ∷ es) same le =
    ap (λ (p : Part). based_event p e ∷ based_events f (n + 1) es) (same n (omega arith)) ∙ ap (λ (xs : List Event). based_event (g n) e ∷ xs) (events-agree f g m (n + 1) es same (omega arith))

kept-agree : (f g : ℕ → Part) (m i : ℕ) (marks : List Span) → AgreeBelow f g m → ((r : ℕ) → is_within marks r ≡ true → r < m) → IsKept f marks i → IsKept g marks i
kept-agree f g m i marks same below kept = elim kept [ inl own ↦ inl own | inr one ↦ inr (one.0, one.1, sym (same one.0 (below one.0 one.3)) ∙ one.2, one.3) ]

end-agree : (f g : ℕ → Part) (m : ℕ) (a b : Option MarkEnd) → AgreeBelow f g m → ((r : ℕ) → is_within (spans_of a) r ≡ true → r < m) → IsBasedEnd f a b → IsBasedEnd g a b
end-agree f g m None None same below h = tt
end-agree f g m None (Some b) same below h = absurd h
end-agree f g m (Some a) None same below h = absurd h
end-agree f g m (Some a) (Some b) same below h = (
  h.0,
  record {
    spaced = h.1.spaced;
    each = λ i. (
      (λ on. kept-agree f g m i a.marks same below ((h.1.each i).0 on)),
      (λ kept. (h.1.each i).1 (kept-agree g f m i a.marks (λ j lt. sym (same j lt)) below kept)),
    );
  },
)

cycles-agree : (f g : ℕ → Part) (m n c : ℕ) (xs ds : List Cycle) → AgreeBelow f g m → n + length (events_in (take c xs)) ≤ m
    → ((k r : ℕ) → k < c → is_within (spans_after k xs) r ≡ true → r < m) → AreBased f n (take c xs) ds → AreBased g n (take c xs) ds
cycles-agree f g m n zero xs [] same le below h = tt
cycles-agree f g m n zero xs (d ∷ ds) same le below h = absurd h
cycles-agree f g m n (suc c) [] [] same le below h = tt
cycles-agree f g m n (suc c) [] (d ∷ ds) same le below h = absurd h
cycles-agree f g m n (suc c) (x ∷ xs) [] same le below h = absurd h
cycles-agree f g m n (suc c) (x ∷ xs) (d ∷ ds) same le below h =
    let size = length-append x.events (events_in (take c xs)) in (
      h.0 ∙ events-agree f g m n x.events same (omega arith),
      end-agree f g m x.mark d.mark same (λ r on. below 0 r (omega arith) on) h.1,
      cycles-agree f g m (n + length x.events) c xs ds same (omega arith) (λ k r lt on. below (suc k) r (omega arith) on) h.2,
    )

-- what is marked before cycle c comes before it
marks-below : (t : Trace) (c k r : ℕ) → IsLimited (as_version_2 t) → k < c → is_within (spans_after k t.cycles) r ≡ true → r < objects_before t c
marks-below t c k r limited lt on =
    let early = marked-early t (suc k) r limited.cycles on in
    let rise = before-rise t (suc k) c lt in
    omega arith

pub before-agree : (f g : ℕ → Part) (t : Trace) (c : ℕ) (ds : List Cycle) → IsLimited (as_version_2 t) → AgreeBelow f g (objects_before t c) → AreBased f 0 (take c t.cycles) ds
    → AreBased g 0 (take c t.cycles) ds
before-agree f g t c ds limited same h = cycles-agree f g (objects_before t c) 0 c t.cycles ds same (omega arith) (λ k r lt on. marks-below t c k r limited lt on) h

-- ---- riders and their leads

inside-list : (parts : List Part) (r lead offset : ℕ) → part_by parts r ≡ Ride lead offset → r < length parts
inside-list parts r lead offset is = elim (cases_lt r (length parts)) [
  | inl less ↦ less
  | inr past ↦ (let none = get_or_past parts r Other past in absurd cc)
]

pub near-by : (t : Trace) (answers : List Answer) (parts : List Part) → AreParts t answers parts → AreNear t (part_by parts)
near-by t answers parts are r lead offset m is =
    let near = rider-near t answers r lead offset m (sym (are r (inside-list parts r lead offset is)) ∙ is) in
    let far = near.1 in
    (near.0, λ le. (let got = far (omega arith) in omega arith))

pub near-few : (t : Trace) (parts : List Part) → AreNear t (part_by parts) → length parts ≤ 1000000 → HaveLeads (part_by parts)
near-few t parts near few r lead offset is =
    let lt = (near r lead offset 0 is).0 in
    let inside = inside-list parts r lead offset is in
    omega arith

-- ---- the cycle under way

-- a part of the list
pub so-far-in : (t : Trace) (parts : List Part) (i : ℕ) → i < length parts → part_so_far t parts i ≡ part_by parts i
so-far-in t parts i lt = cond-true (ltb i (length parts)) (part_by parts i) (lone_part_of (slice_get (events_of t) i)) (lt-ltb i (length parts) lt)

-- and one behind its end
pub so-far-past : (t : Trace) (parts : List Part) (i : ℕ) → length parts ≤ i → part_so_far t parts i ≡ lone_part_of (slice_get (events_of t) i)
so-far-past t parts i le = elim (cases_Bool (ltb i (length parts))) [
  | inl on ↦ (let lt : i < length parts = ltb-true i (length parts) on in absurd (omega arith))
  | inr off ↦ cond-false (ltb i (length parts)) (part_by parts i) (lone_part_of (slice_get (events_of t) i)) off
]

-- the events of a cycle none of whose objects has an answer
pub lone-asked : (t : Trace) (parts : List Part) (c : ℕ) (es : List Event) → c < length t.cycles → ((d : Cycle) → es ≡ (get_or t.cycles c d).events) → length parts ≤ objects_before t c
    → lone_events es ≡ based_events (part_so_far t parts) (objects_before t c) es
lone-asked t parts c es lt those le =
    sym (lone-based (part_so_far t parts) (objects_before t c) es (λ k e at. (
    let event = cycle-event t c k es e lt those (slice_get_within es k e at) ∙ ap Some (get_or_from_slice_get es k e e at) in
    so-far-past t parts (objects_before t c + k) (omega arith) ∙ ap lone_part_of event)))

-- ---- as the run begins

pub some-cycle : (t : Trace) → IsLimited (as_version_2 t) → 0 < length t.cycles
some-cycle t limited = some t.cycles limited.cycles
  where
    some : (cs : List Cycle) → AreCycles 0 (λ _. ⊥) cs → 0 < length cs
    some [] h = absurd h
    some (c ∷ cs) h = omega arith

pub grown-first : (t u : Trace) (es lone : List Event) (parts : List Part) → 0 < length t.cycles → ((d : Cycle) → es ≡ (get_or t.cycles 0 d).events) → u.header ≡ (as_version_2 t).header → parts ≡ []
    → lone ≡ lone_events es → u.cycles ≡ record { events = lone; mark = None } ∷ [] → IsGrowing t 0 parts u
grown-first t u es lone parts some those header none alone cycles = record {
  cycle = some;
  answered = (let n : objects_before t 0 ≡ 0 = refl in omega arith);
  near = λ r lead offset m is. (let lt = inside-list parts r lead offset is in let zero-long = ap (λ (ps : List Part). length ps) none in absurd (omega arith));
  header = header;
  done = [];
  under = record { events = lone; mark = None };
  split = cycles;
  before = tt;
  asked = λ d. (
      let zero-long = ap (λ (ps : List Part). length ps) none in
      alone ∙ lone-asked t parts 0 es some those (omega arith) ∙ ap (λ (xs : List Event). based_events (part_so_far t parts) (objects_before t 0) xs) (those d));
  unmarked = refl;
}

-- ---- as a cycle is answered

pub grown-answered : (t u v : Trace) (answers : List Answer) (c : ℕ) (old parts : List Part) (es new : List Event) → IsLimited (as_version_2 t) → ((d : Cycle) → es ≡ (get_or t.cycles c d).events)
    → (is : IsGrowing t c old u) → AreParts t answers old → AreParts t answers parts → length old ≡ objects_before t c → length parts ≡ objects_before t (c + 1)
    → new ≡ based_events (part_by parts) (objects_before t c) es → v.header ≡ u.header → v.cycles ≡ is.done ++ record { events = new; mark = None } ∷ [] → IsGrowing t c parts v
grown-answered t u v answers c old parts es new limited those is before after size long own header cycles =
    let more = cycle-more t c es is.cycle those in
    record {
      cycle = is.cycle;
      answered = omega arith;
      near = near-by t answers parts after;
      header = header ∙ is.header;
      done = is.done;
      under = record { events = new; mark = None };
      split = cycles;
      before = before-agree (part_by old) (part_by parts) t c is.done limited (λ i lt. before i (omega arith) ∙ sym (after i (omega arith))) is.before;
      asked = λ d. own ∙ events-agree (part_by parts) (part_so_far t parts) (length parts) (objects_before t c) es (λ i lt. sym (so-far-in t parts i lt)) (omega arith)
          ∙ ap (λ (xs : List Event). based_events (part_so_far t parts) (objects_before t c) xs) (those d);
      unmarked = refl;
    }

-- the answers of its objects in the base
pub printed-by : (t : Trace) (answers old : List Answer) (parts seen : List Part) (first n : ℕ) → AreParts t answers parts → length parts ≡ length answers → seen ≡ parts → first ≡ n
    → old ++ based_answers (part_by seen) first (take (length answers - first) (drop first answers)) ≡ old ++ based_answers (part_at t answers) n (drop n answers)
printed-by t answers old parts seen first n are size same at =
    let long = length-drop first answers in
    ap (λ (xs : List Answer). old ++ based_answers (part_by seen) first xs) (take_all (length answers - first) (drop first answers) (omega arith))
    ∙ ap (λ (ps : List Part). old ++ based_answers (part_by ps) first (drop first answers)) same
    ∙ ap (λ (k : ℕ). old ++ based_answers (part_by parts) k (drop k answers)) at
    ∙ ap (λ (xs : List Answer). old ++ xs) (answers-by (part_by parts) (part_at t answers) n (drop n answers) (parts-all t answers parts are size))

-- ---- as the next cycle begins

pub grown-next : (t u v : Trace) (c : ℕ) (parts : List Part) (x : Cycle) (mark : Option MarkEnd) (es lone : List Event) → c + 1 < length t.cycles → x ≡ get_or t.cycles c x
    → ((d : Cycle) → es ≡ (get_or t.cycles (c + 1) d).events) → (is : IsGrowing t c parts u) → length parts ≡ objects_before t (c + 1) → IsBasedEnd (part_by parts) x.mark mark
    → lone ≡ lone_events es → v.header ≡ u.header → v.cycles ≡ (is.done ++ record is.under { mark = mark } ∷ []) ++ record { events = lone; mark = None } ∷ [] → IsGrowing t (c + 1) parts v
grown-next t u v c parts x mark es lone next own those is long end alone header cycles =
    let item : (get_or t.cycles c x).events ≡ x.events = ap (λ (y : Cycle). y.events) (sym own) in
    let more = cycle-more t c x.events is.cycle (λ d. ap (λ (y : Cycle). y.events) (own ∙ get-same t.cycles c x d is.cycle)) in
    let asked : is.under.events ≡ based_events (part_by parts) (objects_before t c) x.events =
    is.asked x ∙ ap (λ (xs : List Event). based_events (part_so_far t parts) (objects_before t c) xs) item
    ∙ events-agree (part_so_far t parts) (part_by parts) (length parts) (objects_before t c) x.events (λ i lt. so-far-in t parts i lt) (omega arith) in
    record {
      cycle = next;
      answered = omega arith;
      near = is.near;
      header = header ∙ is.header;
      done = is.done ++ record is.under { mark = mark } ∷ [];
      under = record { events = lone; mark = None };
      split = cycles;
      before = cycles-next (part_by parts) t.cycles is.done c (objects_before t c) x (record is.under { mark = mark }) is.cycle own refl is.before asked end;
      asked = λ d. alone ∙ lone-asked t parts (c + 1) es next those (omega arith) ∙ ap (λ (xs : List Event). based_events (part_so_far t parts) (objects_before t (c + 1)) xs) (those d);
      unmarked = refl;
    }
  where
    get-same : (cs : List Cycle) (k : ℕ) (a b : Cycle) → k < length cs → get_or cs k a ≡ get_or cs k b
    get-same [] k a b lt = absurd (omega arith)
    get-same (y ∷ cs) zero a b lt = refl
    get-same (y ∷ cs) (suc k) a b lt = get-same cs k a b (omega arith)
