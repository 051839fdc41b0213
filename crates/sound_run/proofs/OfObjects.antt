-- Marks by places are marks by a run's objects.
use Rattle.std.proofs.Common.{◌≡◌, ℕ, suc, Bool, true, List, map, reverse, Some, refl, sym, ◌∙◌, ap, subst, arith}
use Rattle.std.specs.List.{slice_get}
use Rattle.std.proofs.lemmas.List.{reverse-reverse}
use Rattle.page_bitmap.specs.declared.line.Line.{Line}
use Rattle.page_alloc.specs.Lists.{In}
use Rattle.page_alloc.specs.Lives.{Life, open_lives}
use Rattle.page_alloc.specs.Journal.{at_end}
use Rattle.sound_run.proofs.Journals.{lies, same_page}
use Rattle.span_state.specs.MarkSet.{MarkSet, is_marked}
use Rattle.trace_reader.specs.declared.trace.Trace.{Trace}
use Rattle.trace_reader.specs.declared.trace.Event.{Event}
use Rattle.trace_reader.specs.Limits.{events_of}
use Rattle.cycle_history.proofs.OfObjects.{get-number, known, object-of, sits-place, sits-one}
use Rattle.cycle_history.specs.declared.Answer.{Answer}
use Rattle.cycle_history.specs.declared.Answer.TheVariants.{Placed}
use Rattle.cycle_history.specs.Requests.{marked_by, region_of}
use Rattle.cycle_history.specs.Objects.{Object, is_placed, Sits}
use Rattle.sound_run.specs.Run.{IsRun}
use Rattle.sound_run.specs.Spans.{AreMarks}
use Rattle.cycle_history.specs.Places.{IsPlace, LiesAt}
use Rattle.cycle_history.specs.Marked.{AreMarksOf}
use Rattle.cycle_history.specs.Before.{AreObjectsBefore, ArePlaces, requests_before}
use Rattle.sound_run.proofs.Live.{at_end-now, by-later, legal-at_end, live-marked, live-of}
use Rattle.sound_run.proofs.Seats.{same_number}

-- ---- places

-- The marks of a life's page are the indices of its objects that the mark end marks.
pub marks-of-objects : (t : Trace) (region goal c : ℕ) (past : List Line) (objects : List Object) (answers : List Answer) (sampled : List Bool) (buckets : List ℕ) (marks : MarkSet) (life : Life)
    → IsRun (marked_by t) region goal c past objects → AreObjectsBefore t (suc c) answers objects → AreMarksOf t (suc c) answers sampled buckets marks → In life (open_lives past)
    → AreMarks (marked_by t) (suc c) objects life.number (λ k. is_marked marks life.page k)
marks-of-objects t region goal c past objects answers sampled buckets marks life run are marks-are open-life =
    let seated : (o : Object) → In o objects → is_placed o.answer ≡ true → marked_by t (suc c) o.id ≡ true → (l : Life) × In l (open_lives past) × (l.number ≡ o.life) × Sits o l o.index =
    λ o h placed marked. (
    let seat = run.seats o h placed in
    let there : In seat.0 (open_lives past) = subst (λ (ls : List Line). In seat.0 (open_lives ls)) (at_end-now (suc c) past (by-later c (suc c) past (omega arith) run.by))
    (seat.1.stays (suc c) (live-marked (marked_by t) (suc c) o placed marked)) in
    (seat.0, there, seat.1.number, seat.1.sits)) in
    record {
      shown = λ o h placed marked one. (
          let seat = seated o h placed marked in
          let same : seat.0 ≡ life = same_number past seat.0 life seat.1 open-life (seat.2 ∙ one) in
          let page : seat.0.page ≡ life.page = ap (λ (l : Life). l.page) same in
          let is = known t (suc c) answers objects o are h placed in
          let place = sits-place is.request.event.size is.request.event.scan is.address o seat.0 o.index is.some is.fits is.answer seat.3 in
          let lies : LiesAt t answers o.id life.page o.index = record {
            event = is.request.event;
            address = is.address;
            asked = is.asked;
            answered = is.answered;
            place = subst (λ (p : ℕ). IsPlace is.request.event.size is.address p o.index) page place;
          } in
          (marks-are.places life.page o.index).1 (o.id, record { marked = marked; lies = lies }));
      from = λ k on. (
          let at = (marks-are.places life.page k).0 on in
          let lies = at.1.lies in
          let e : reverse (map (λ (x : Object). x.answer) objects) ≡ answers = ap (λ (xs : List Answer). reverse xs) are.printed ∙ reverse-reverse answers in
          let number = get-number at.0 (Placed lies.address) (map (λ (x : Object). x.answer) objects) (ap (λ (xs : List Answer). slice_get xs at.0) e ∙ lies.answered) in
          let found = object-of (requests_before t (suc c)) objects at.0 (Placed lies.address) are.asked number in
          let o = found.0 in
          let placed : is_placed o.answer ≡ true = ap is_placed found.3 in
          let marked : marked_by t (suc c) o.id ≡ true = ap (λ (i : ℕ). marked_by t (suc c) i) found.2 ∙ at.1.marked in
          let is = known t (suc c) answers objects o are found.1 placed in
          let seat = seated o found.1 placed marked in
          let asked = is.asked in
          let asked' = lies.asked in
          let id = found.2 in
          let event : lies.event ≡ is.request.event = some-same (sym asked' ∙ ap (λ (i : ℕ). slice_get (events_of t) i) (sym id) ∙ asked) in
          let place : IsPlace is.request.event.size lies.address life.page k = subst (λ (x : Event). IsPlace x.size lies.address life.page k) event lies.place in
          let one = sits-one is.request.event.size is.request.event.scan lies.address o seat.0 o.index life.page k is.fits found.3 seat.3 place in
          let same : seat.0 ≡ life = same_page region goal past seat.0 life run.journal seat.1 open-life one.0 in
          (o, found.1, placed, marked, sym seat.2 ∙ ap (λ (l : Life). l.number) same, one.1));
    }
  where
    some-same : {a b : Event} → Some a ≡ Some b → a ≡ b
    some-same h = cc

-- ---- what a run shows of what the search for marks asks

-- and each placed answer is a place
pub run-places : (t : Trace) (goal c m : ℕ) (past : List Line) (objects : List Object) (answers : List Answer) → IsRun (marked_by t) (region_of t) goal c past objects → AreObjectsBefore t m answers objects
    → ArePlaces t answers
run-places t goal c m past objects answers run are i address at =
    let e : reverse (map (λ (x : Object). x.answer) objects) ≡ answers = ap (λ (xs : List Answer). reverse xs) are.printed ∙ reverse-reverse answers in
    let number = get-number i (Placed address) (map (λ (x : Object). x.answer) objects) (ap (λ (xs : List Answer). slice_get xs i) e ∙ at) in
    let found = object-of (requests_before t m) objects i (Placed address) are.asked number in
    let o = found.0 in
    let placed : is_placed o.answer ≡ true = ap is_placed found.3 in
    let is = known t m answers objects o are found.1 placed in
    let seat = run.seats o found.1 placed in
    let open-life = seat.1.stays o.cycle (live-of (marked_by t) o.cycle o placed refl) in
    let inside = lies (region_of t) goal (at_end o.cycle past) seat.0 (legal-at_end 64 (region_of t) goal o.cycle past run.journal) open-life in
    let some = inside.0 in
    let room = inside.1 in (
      seat.0.page,
      o.index,
      (omega arith),
      subst (λ (n : ℕ). LiesAt t answers n seat.0.page o.index) found.2 (record {
        event = is.request.event;
        address = is.address;
        asked = is.asked;
        answered = is.answered;
        place = sits-place is.request.event.size is.request.event.scan is.address o seat.0 o.index is.some is.fits is.answer seat.1.sits;
      }),
    )
