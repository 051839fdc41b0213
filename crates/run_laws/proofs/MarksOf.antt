-- The marks of a mark end, as the search for them leaves them, are a cycle's marks; and the objects that it looks at lie apart.
use Rattle.std.proofs.Common.{◌≡◌, ℕ, zero, suc, ◌+◌, ◌-◌, ◌<◌, ◌≤◌, Bool, true, List, [], ◌∷◌, length, map, reverse, take, Some, sym, ◌∙◌, ap, subst, arith, inl, inr}
use Rattle.std.specs.List.{flat_map, slice_get}
use Rattle.std.proofs.lemmas.Bool.{cases_eq}
use Rattle.std.proofs.lemmas.List.{length-append, length-map, reverse-reverse, take-take}
use Rattle.page_bitmap.specs.declared.line.Line.{Line}
use Rattle.page_alloc.specs.Lists.{In}
use Rattle.page_alloc.specs.Lives.{Life, open_lives}
use Rattle.sound_run.proofs.Journals.{same_page}
use Rattle.span_state.specs.MarkSet.{MarkSet, is_marked}
use Rattle.trace_reader.specs.declared.trace.Trace.{Trace}
use Rattle.trace_reader.specs.declared.trace.Cycle.{Cycle}
use Rattle.trace_reader.specs.declared.trace.Event.{Event}
use Rattle.trace_reader.specs.Limits.{events_of}
use Rattle.cycle_history.specs.declared.Answer.{Answer}
use Rattle.cycle_history.specs.declared.Answer.TheVariants.{Placed}
use Rattle.cycle_history.specs.Requests.{Request, marked_by, requests_from}
use Rattle.cycle_history.specs.Objects.{Object, is_placed, live}
use Rattle.sound_run.specs.Run.{IsRun}
use Rattle.sound_run.specs.Spans.{AreMarks}
use Rattle.sound_run.proofs.Ends.{next-keeps}
use Rattle.cycle_history.specs.Places.{IsPlace, LiesAt}
use Rattle.cycle_history.specs.Marked.{AreMarksOf, LieApart, LivedBefore}
use Rattle.cycle_history.specs.Before.{AreObjectsBefore, objects_before, requests_before}
use Rattle.sound_run.proofs.Live.{at_end-now, live-marked, live-of}
use Rattle.cycle_history.proofs.Counted.{get-split}
use Rattle.cycle_history.proofs.Plain.{request_in}
use Rattle.cycle_history.proofs.OfObjects.{get-number, number-get, request-of, object-of, event-of, sits-one}
use Rattle.sound_run.proofs.OfObjects.{marks-of-objects}
use Rattle.run_laws.specs.CycleSoFar.{CycleSoFar}
use Rattle.run_laws.specs.Facts.{Marks}

-- ---- the object that lies at a place

-- object i of a run lives in cycle c, in an open life that begins at the page, at index k
record LivesAt (t : Trace) (c : ℕ) (past : List Line) (objects : List Object) (i page k : ℕ) : Type 0 where
  object : Object
  given : In object objects
  id : object.id ≡ i
  lives : live (marked_by t) c object ≡ true
  life : Life
  here : In life (open_lives past)
  number : life.number ≡ object.life
  begins : life.page ≡ page
  index : object.index ≡ k

lives-at : (t : Trace) (region goal c m : ℕ) (past : List Line) (objects : List Object) (answers : List Answer) (i page k : ℕ) → IsRun (marked_by t) region goal c past objects → AreObjectsBefore t m answers objects
    → LiesAt t answers i page k → ((o : Object) → In o objects → o.id ≡ i → is_placed o.answer ≡ true → live (marked_by t) c o ≡ true) → LivesAt t c past objects i page k
lives-at t region goal c m past objects answers i page k run are lies when =
    let e : reverse (map (λ (x : Object). x.answer) objects) ≡ answers = ap (λ (xs : List Answer). reverse xs) are.printed ∙ reverse-reverse answers in
    let number = get-number i (Placed lies.address) (map (λ (x : Object). x.answer) objects) (ap (λ (xs : List Answer). slice_get xs i) e ∙ lies.answered) in
    let o = object-of (requests_before t m) objects i (Placed lies.address) are.asked number in
    let placed : is_placed o.0.answer ≡ true = ap is_placed o.3 in
    let has = request-of (requests_before t m) objects o.0 are.asked o.1 in
    let asked : slice_get (events_of t) i ≡ Some has.request.event = subst (λ (n : ℕ). slice_get (events_of t) n ≡ Some has.request.event) o.2 (event-of t m o.0.id has.request has.asked) in
    let same : lies.event ≡ has.request.event = one-event lies.event has.request.event (slice_get (events_of t) i) lies.asked asked in
    let place : IsPlace has.request.event.size lies.address page k = subst (λ (v : Event). IsPlace v.size lies.address page k) same lies.place in
    let lives = when o.0 o.1 o.2 placed in
    let seat = run.seats o.0 o.1 placed in
    let there : In seat.0 (open_lives past) = rw (at_end-now c past run.by) at (seat.1.stays c lives) in
    let one = sits-one has.request.event.size has.request.event.scan lies.address o.0 seat.0 o.0.index page k (has.answers.need place.some) o.3 seat.1.sits place in
    record { object = o.0; given = o.1; id = o.2; lives = lives; life = seat.0; here = there; number = seat.1.number; begins = one.0; index = one.1 }
  where
    one-event : (a b : Event) → (x : _) → x ≡ Some a → x ≡ Some b → a ≡ b
    one-event a b x ea eb = cc

-- ---- marks

-- a marked page is the first one of an open life
pub marks-only : (t : Trace) (region goal m : ℕ) (past : List Line) (objects : List Object) (answers : List Answer) (sampled : List Bool) (buckets : List ℕ) (marks : MarkSet) (page k : ℕ)
    → IsRun (marked_by t) region goal m past objects → AreObjectsBefore t m answers objects → AreMarksOf t m answers sampled buckets marks → is_marked marks page k ≡ true
    → (life : Life) × In life (open_lives past) × (life.page ≡ page)
marks-only t region goal m past objects answers sampled buckets marks page k run are found on =
    let at = (found.places page k).0 on in
    let lives = lives-at t region goal m m past objects answers at.0 page k run are at.1.lies
    (λ o given id placed. live-marked (marked_by t) m o placed (subst (λ (n : ℕ). marked_by t m n ≡ true) (sym id) at.1.marked)) in
    (lives.life, lives.here, lives.begins)

-- ---- objects that live in one cycle lie apart

of-cycle : (first n : ℕ) (events : List Event) (r : Request) → slice_get (map (request_in first) events) n ≡ Some r → (r.cycle ≡ first) × (n < length events)
of-cycle first n [] r at = cc
of-cycle first zero (e ∷ events) r at = ((let same : request_in first e ≡ r = cc in sym (ap (λ (q : Request). q.cycle) same)), (omega arith))
of-cycle first (suc n) (e ∷ events) r at = (let rest = of-cycle first n events r at in let lt = rest.1 in (rest.0, (omega arith)))

-- a request that comes behind those of so many cycles is of no earlier one
cycle-from : (first c n : ℕ) (cycles : List Cycle) (r : Request) → length (flat_map (λ (x : Cycle). x.events) (take c cycles)) ≤ n → slice_get (requests_from first cycles) n ≡ Some r → first + c ≤ r.cycle
cycle-from first c n [] r le at = cc
cycle-from first zero n (x ∷ cycles) r le at =
    elim (get-split (map (request_in first) x.events) (requests_from (first + 1) cycles) n r at) [
      | inl here ↦ (let is = (of-cycle first n x.events r here).0 in omega arith)
      | inr there ↦ (let from = cycle-from (first + 1) 0 (n - length (map (request_in first) x.events)) cycles r (omega arith) there.1 in omega arith)
    ]
cycle-from first (suc c) n (x ∷ cycles) r le at =
    let more = length-append x.events (flat_map (λ (y : Cycle). y.events) (take c cycles)) in
    let size = length-map x.events (request_in first) in
    elim (get-split (map (request_in first) x.events) (requests_from (first + 1) cycles) n r at) [
      | inl here ↦ (let lt = (of-cycle first n x.events r here).1 in absurd (omega arith))
      | inr there ↦ (let from = cycle-from (first + 1) c (n - length (map (request_in first) x.events)) cycles r (omega arith) there.1 in omega arith)
    ]

-- an object that lived in the cycle before a mark end lives as that cycle ends
lived-live : (t : Trace) (region goal c : ℕ) (past : List Line) (objects : List Object) (answers : List Answer) (o : Object) → IsRun (marked_by t) region goal c past objects
    → AreObjectsBefore t (suc c) answers objects → In o objects → is_placed o.answer ≡ true → LivedBefore t (suc c) o.id → live (marked_by t) c o ≡ true
lived-live t region goal c past objects answers o run are given placed lived =
    let e : suc c - 1 ≡ c = omega arith in
    elim (rw e at lived) [
      | inl late ↦ (
          let has = request-of (requests_before t (suc c)) objects o are.asked given in
          let at = number-get o.id has.request (requests_before t (suc c)) has.asked in
          let asked : slice_get (requests_from 0 (take (suc c) t.cycles)) o.id ≡ Some has.request = sym (ap (λ (rs : List Request). slice_get rs o.id) (reverse-reverse (requests_from 0 (take (suc c) t.cycles)))) ∙ at in
          let front : length (flat_map (λ (x : Cycle). x.events) (take c (take (suc c) t.cycles))) ≡ objects_before t c = ap (λ (cs : List Cycle). length (flat_map (λ (x : Cycle). x.events) cs)) (take-take c (suc c) t.cycles (omega arith)) in
          let low = cycle-from 0 c o.id (take (suc c) t.cycles) has.request (omega arith) asked in
          let high = run.cycles o given in
          let same = has.answers.cycle in
          live-of (marked_by t) c o placed (omega arith))
      | inr marked ↦ live-marked (marked_by t) c o placed marked
    ]

-- no two objects that lived in a run's last cycle lie at one place
pub live-apart : (t : Trace) (region goal c : ℕ) (past : List Line) (objects : List Object) (answers : List Answer) → IsRun (marked_by t) region goal c past objects → AreObjectsBefore t (suc c) answers objects
    → LieApart t (suc c) answers
live-apart t region goal c past objects answers run are i j page k lived lived' lies lies' =
    let lives : (n : ℕ) → LivedBefore t (suc c) n → (o : Object) → In o objects → o.id ≡ n → is_placed o.answer ≡ true → live (marked_by t) c o ≡ true =
    λ n before o given id placed. lived-live t region goal c past objects answers o run are given placed (subst (λ (x : ℕ). LivedBefore t (suc c) x) (sym id) before) in
    let a = lives-at t region goal c (suc c) past objects answers i page k run are lies (lives i lived) in
    let b = lives-at t region goal c (suc c) past objects answers j page k run are lies' (lives j lived') in
    let one : a.life ≡ b.life = same_page region goal past a.life b.life run.journal a.here b.here (a.begins ∙ sym b.begins) in
    elim (cases_eq i j) [
      | inl same ↦ same
      | inr other ↦ absurd (run.distinct c a.object b.object a.given b.given (λ e. other (sym a.id ∙ e ∙ b.id)) a.lives b.lives (sym a.number ∙ ap (λ (l : Life). l.number) one ∙ b.number) (a.index ∙ sym b.index))
    ]

-- ---- a cycle's marks

-- a cycle whose marks are those of the mark end before it
pub facts-marks : (t : Trace) (region goal m : ℕ) (objects : List Object) (answers : List Answer) (sampled : List Bool) (buckets : List ℕ) (marks : MarkSet) (e : CycleSoFar)
    → e.cycle ≡ suc m → ((page k : ℕ) → e.marks page k ≡ is_marked marks page k) → IsRun (marked_by t) region goal m e.before objects
    → AreObjectsBefore t (suc m) answers objects → AreMarksOf t (suc m) answers sampled buckets marks → Marks (marked_by t) objects e
facts-marks t region goal m objects answers sampled buckets marks e is same run are found = record {
  right = λ life h. rw is (alike objects life (marks-of-objects t region goal m e.before objects answers sampled buckets marks life run are found h));
  only = λ page k on. marks-only t region goal (suc m) e.before objects answers sampled buckets marks page k (next-keeps (marked_by t) region goal m e.before objects run) are found (sym (same page k) ∙ on);
}
  where
    alike : (objects : List Object) (life : Life) → AreMarks (marked_by t) (suc m) objects life.number (λ k. is_marked marks life.page k) → AreMarks (marked_by t) (suc m) objects life.number (λ k. e.marks life.page k)
    alike objects life right = record {
      shown = λ o ho placed mark one. same life.page o.index ∙ right.shown o ho placed mark one;
      from = λ k on. right.from k (sym (same life.page k) ∙ on);
    }
