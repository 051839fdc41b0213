-- What is found of an object, from its event and its answer.
use Rattle.std.proofs.Common.{◌≡◌, ℕ, zero, suc, ◌+◌, ◌-◌, ◌^◌, ◌<◌, ◌≤◌, List, [], ◌∷◌, ◌++◌, length, get_or, Option, Some, None, refl, sym, ◌∙◌, ap, subst, arith, inl, inr}
use Rattle.std.specs.List.{slice_get, AllByRecursion}
use Rattle.std.proofs.lemmas.Option.{slice_get_within}
use Rattle.trace_reader.specs.declared.trace.Trace.{Trace}
use Rattle.trace_reader.specs.declared.trace.Cycle.{Cycle}
use Rattle.trace_reader.specs.declared.trace.Event.{Event}
use Rattle.trace_reader.specs.Limits.{EventFits, events_of}
use Rattle.cycle_history.specs.declared.Answer.{Answer}
use Rattle.cycle_history.specs.declared.Answer.TheVariants.{Placed}
use Rattle.cycle_history.specs.declared.places.Place.{Place}
use Rattle.cycle_history.specs.Places.{HasPlace, IsPlace, LiesAt}
use Rattle.cycle_history.specs.Before.{ArePlaces, IsLimited, objects_before}
use Rattle.cycle_history.specs.Found.{AreFound, IsFound, IsPlaceOf}
use Rattle.cycle_history.proofs.Counted.{get-split}
use Rattle.cycle_history.proofs.Firsts.{before-le, before-more, event-at}

-- ---- the events of a cycle

no_cycle : Cycle
no_cycle = record { events = []; mark = None }

-- one cycle more
pub cycle-more : (t : Trace) (c : ℕ) (events : List Event) → c < length t.cycles → ((d : Cycle) → events ≡ (get_or t.cycles c d).events)
    → objects_before t (c + 1) ≡ objects_before t c + length events
cycle-more t c events lt same = before-more t c no_cycle lt ∙ ap (λ (es : List Event). objects_before t c + length es) (sym (same no_cycle))

-- the objects of a cycle are few
pub cycle-few : (t : Trace) (c : ℕ) (events : List Event) → IsLimited t → c < length t.cycles → ((d : Cycle) → events ≡ (get_or t.cycles c d).events)
    → objects_before t c + length events ≤ 1000000
cycle-few t c events limited lt same =
    let all = cycle-more t c events lt same in
    let le = before-le t (c + 1) in
    let few = limited.objects in
    omega arith

-- the event of an object in its cycle
pub cycle-event : (t : Trace) (c n : ℕ) (events : List Event) (e : Event) → c < length t.cycles → ((d : Cycle) → events ≡ (get_or t.cycles c d).events) → n < length events
    → slice_get (events_of t) (objects_before t c + n) ≡ Some (get_or events n e)
cycle-event t c n events e lt same inside =
    let all : length events ≡ length (get_or t.cycles c no_cycle).events = ap (λ (es : List Event). length es) (same no_cycle) in
    event-at t c n no_cycle e lt (omega arith) ∙ ap (λ (es : List Event). Some (get_or es n e)) (sym (same no_cycle))

-- a fact of each event
pub all-at : (P : Event → Type 0) (xs : List Event) (k : ℕ) (x : Event) → AllByRecursion P xs → slice_get xs k ≡ Some x → P x
all-at P [] k x all is = cc
all-at P (y ∷ xs) zero x all is = (let same : y ≡ x = cc in subst P same all.0)
all-at P (y ∷ xs) (suc k) x all is = all-at P xs k x all.1 is

pub size-fits : (t : Trace) (i : ℕ) (e : Event) → IsLimited t → slice_get (events_of t) i ≡ Some e → e.size ≤ 2 ^ 40
size-fits t i e limited at = (all-at (EventFits t.header.procs) (events_of t) i e limited.events at).size

-- ---- the place of an object

-- a placed object has a place among the pages that a region can have
pub has-place : (t : Trace) (answers : List Answer) (i address : ℕ) (e : Event) → IsLimited t → ArePlaces t answers → slice_get (events_of t) i ≡ Some e → slice_get answers i ≡ Some (Placed address)
    → HasPlace e.size address
has-place t answers i address e limited places asked answered =
    let place = places i address answered in
    let lies = place.3 in
    let chunks = limited.header.chunks in
    let low = place.2 in
    let asked' = lies.asked in
    let answered' = lies.answered in
    let event : lies.event ≡ e = cc in
    let same : lies.address ≡ address = cc in (
      place.0,
      place.1,
      (omega arith),
      subst (λ (x : ℕ). IsPlace e.size x place.0 place.1) same (subst (λ (x : Event). IsPlace x.size lies.address place.0 place.1) event lies.place),
    )

-- what is found of an object's size and answer is found of the object
pub found-of : (t : Trace) (answers : List Answer) (i : ℕ) (e : Event) (answer : Answer) (item : Option Place) → slice_get (events_of t) i ≡ Some e → slice_get answers i ≡ Some answer
    → IsPlaceOf e.size answer item → IsFound t answers i item
found-of t answers i e answer None asked answered none = λ page k lies. (
    let other = lies.answered in
    let same : answer ≡ Placed lies.address = cc in
    none lies.address same)
found-of t answers i e answer (Some place) asked answered is =
    record { event = e; address = is.0; asked = asked; answered = answered ∙ ap Some is.1; place = is.2 }

last-item : (item found : Option Place) (k : ℕ) → slice_get (item ∷ []) k ≡ Some found → (k ≡ 0) × (item ≡ found)
last-item item found zero at = (refl, cc)
last-item item found (suc k) at = absurd cc

-- one more
pub found-more : (t : Trace) (answers : List Answer) (places : List (Option Place)) (item : Option Place) → AreFound t answers places → IsFound t answers (length places) item
    → AreFound t answers (places ++ item ∷ [])
found-more t answers places item old one i found at =
    elim (get-split places (item ∷ []) i found at) [
      | inl here ↦ old i found here
      | inr there ↦ (
          let last = last-item item found (i - length places) there.1 in
          let le = there.0 in
          let none = last.0 in
          let same : length places ≡ i = omega arith in
          subst (λ (x : Option Place). IsFound t answers i x) last.1 (subst (λ (k : ℕ). IsFound t answers k item) same one))
    ]

-- ---- more answers

pub get-front : {X : Type 0} (xs ys : List X) (i : ℕ) → i < length xs → slice_get (xs ++ ys) i ≡ slice_get xs i
get-front [] ys i lt = absurd (omega arith)
get-front (x ∷ xs) ys zero lt = refl
get-front (x ∷ xs) ys (suc i) lt = get-front xs ys i (omega arith)

-- what was found of an object is found of it where more answers follow
pub lies-more : (t : Trace) (old more : List Answer) (i page k : ℕ) → LiesAt t old i page k → LiesAt t (old ++ more) i page k
lies-more t old more i page k lies = record {
  event = lies.event;
  address = lies.address;
  asked = lies.asked;
  answered = get-front old more i (slice_get_within old i (Placed lies.address) lies.answered) ∙ lies.answered;
  place = lies.place;
}

pub lies-less : (t : Trace) (old more : List Answer) (i page k : ℕ) → i < length old → LiesAt t (old ++ more) i page k → LiesAt t old i page k
lies-less t old more i page k lt lies = record {
  event = lies.event;
  address = lies.address;
  asked = lies.asked;
  answered = sym (get-front old more i lt) ∙ lies.answered;
  place = lies.place;
}

is-found-more : (t : Trace) (old more : List Answer) (i : ℕ) (found : Option Place) → i < length old → IsFound t old i found → IsFound t (old ++ more) i found
is-found-more t old more i None lt none = λ page k lies. none page k (lies-less t old more i page k lt lies)
is-found-more t old more i (Some place) lt lies = lies-more t old more i place.page place.index lies

pub found-kept : (t : Trace) (old more : List Answer) (places : List (Option Place)) → length places ≤ length old → AreFound t old places → AreFound t (old ++ more) places
found-kept t old more places le are i found at =
    let lt = slice_get_within places i found at in
    is-found-more t old more i found (omega arith) (are i found at)
