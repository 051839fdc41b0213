-- Objects, their requests, their answers and their places.
use Rattle.std.proofs.Common.{◌≡◌, ℕ, zero, suc, ◌+◌, ◌*◌, ◌<◌, ◌≤◌, Bool, true, List, [], ◌∷◌, ◌++◌, length, map, reverse, take, drop, Option, Some, refl, sym, ◌∙◌, ap, subst, arith, ◌⊎◌, inl, inr}
use Rattle.std.specs.List.{flat_map, slice_get}
use Rattle.std.specs.Option.{option_map}
use Rattle.std.proofs.lemmas.Bool.{cases_lt}
use Rattle.std.proofs.lemmas.List.{length-map, length-reverse, map-append, reverse-append, reverse-reverse, take-append-drop}
use Rattle.std.proofs.lemmas.List.Concat.{flat_map-append}
use Rattle.std.proofs.lemmas.Option.{slice_get-map, slice_get_within}
use Rattle.page_alloc.specs.Lists.{In, IsNumber}
use Rattle.page_alloc.specs.Lives.{Life}
use Rattle.trace_reader.specs.declared.trace.Trace.{Trace}
use Rattle.trace_reader.specs.declared.trace.Cycle.{Cycle}
use Rattle.trace_reader.specs.declared.trace.Event.{Event}
use Rattle.trace_reader.specs.Limits.{events_of}
use Rattle.cycle_history.specs.declared.Answer.{Answer}
use Rattle.cycle_history.specs.declared.Answer.TheVariants.{Placed, Zero, Missed}
use Rattle.cycle_history.specs.Needs.{IsNeed}
use Rattle.cycle_history.specs.Requests.{Request, requests_from, requests_of}
use Rattle.cycle_history.specs.Objects.{Object, is_placed, Sits}
use Rattle.cycle_history.specs.Rules.{IsObject, AreAnswered}
use Rattle.cycle_history.specs.Places.{IsPlace}
use Rattle.cycle_history.specs.Before.{AreObjectsBefore, objects_before, requests_before}
use Rattle.cycle_history.specs.Counted.{AreObjectsOf, AreZeros}
use Rattle.cycle_history.proofs.Plain.{same_length}
use Rattle.cycle_history.proofs.OnePlace.{place-one}

-- ---- numbers from the newest and from the oldest

number-length : {X : Type 0} (n : ℕ) (x : X) (xs : List X) → IsNumber n x xs → n < length xs
number-length n x [] h = absurd h
number-length n x (y ∷ xs) h = elim h [ inl here ↦ (let e = here.0 in omega arith) | inr there ↦ (let lt = number-length n x xs there in omega arith) ]

get-front : {X : Type 0} (xs ys : List X) (n : ℕ) (x : X) → slice_get xs n ≡ Some x → slice_get (xs ++ ys) n ≡ Some x
get-front [] ys n x h = cc
get-front (y ∷ xs) ys zero x h = h
get-front (y ∷ xs) ys (suc n) x h = get-front xs ys n x h

get-last : {X : Type 0} (xs : List X) (x : X) → slice_get (xs ++ x ∷ []) (length xs) ≡ Some x
get-last [] x = refl
get-last (y ∷ xs) x = get-last xs x

from-last : {X : Type 0} (xs : List X) (y x : X) (n : ℕ) → slice_get (xs ++ y ∷ []) n ≡ Some x → (slice_get xs n ≡ Some x) ⊎ ((n ≡ length xs) × (y ≡ x))
from-last [] y x zero h = inr (refl, cc)
from-last [] y x (suc n) h = cc
from-last (z ∷ xs) y x zero h = inl h
from-last (z ∷ xs) y x (suc n) h = elim (from-last xs y x n h) [ inl old ↦ inl old | inr new ↦ inr (ap suc new.0, new.1) ]

reverse-cons : {X : Type 0} (x : X) (xs : List X) → reverse (x ∷ xs) ≡ reverse xs ++ x ∷ []
reverse-cons x xs = reverse-append (x ∷ []) xs

pub number-get : {X : Type 0} (n : ℕ) (x : X) (xs : List X) → IsNumber n x xs → slice_get (reverse xs) n ≡ Some x
number-get n x [] h = absurd h
number-get n x (y ∷ xs) h =
    rw (reverse-cons y xs) (elim h [
      | inl here ↦ (
          let at : length (reverse xs) ≡ n = length-reverse xs ∙ here.0 in
          subst (λ k. slice_get (reverse xs ++ y ∷ []) k ≡ Some x) at (get-last (reverse xs) y ∙ ap Some here.1))
      | inr there ↦ get-front (reverse xs) (y ∷ []) n x (number-get n x xs there)
    ])

pub get-number : {X : Type 0} (n : ℕ) (x : X) (xs : List X) → slice_get (reverse xs) n ≡ Some x → IsNumber n x xs
get-number n x [] h = cc
get-number n x (y ∷ xs) h =
    elim (from-last (reverse xs) y x n (rw (reverse-cons y xs) at h)) [
      | inl old ↦ inr (get-number n x xs old)
      | inr new ↦ inl (sym (length-reverse xs) ∙ sym new.0, new.1)
    ]

-- ---- objects, their requests and their answers

-- an object has its number among the objects, and answers the request of that number
pub record HasRequest (requests : List Request) (objects : List Object) (o : Object) : Type 0 where
  pub number : IsNumber o.id o objects
  pub request : Request
  pub asked : IsNumber o.id request requests
  pub answers : IsObject request o.id o

pub request-of : (requests : List Request) (objects : List Object) (o : Object) → AreAnswered requests objects → In o objects → HasRequest requests objects o
request-of [] [] o all h = absurd h
request-of [] (x ∷ objects) o all h = absurd all
request-of (r ∷ requests) [] o all h = absurd h
request-of (r ∷ requests) (x ∷ objects) o all h =
    elim h [
      | inl here ↦ (
          let is : IsObject r (length requests) o = subst (λ (y : Object). IsObject r (length requests) y) here all.0 in
          let e = is.id in
          let same = same_length requests objects all.1 in
          record {
            number = inl (sym same ∙ sym e, here);
            request = r;
            asked = inl (sym e, refl);
            answers = subst (λ (n : ℕ). IsObject r n o) (sym e) is;
          })
      | inr there ↦ (
          let old = request-of requests objects o all.1 there in
          record { number = inr old.number; request = old.request; asked = inr old.asked; answers = old.answers })
    ]

-- the object of a number
pub object-of : (requests : List Request) (objects : List Object) (n : ℕ) (a : Answer) → AreAnswered requests objects → IsNumber n a (map (λ (o : Object). o.answer) objects)
    → (o : Object) × In o objects × (o.id ≡ n) × (o.answer ≡ a)
object-of [] [] n a all h = absurd h
object-of [] (x ∷ objects) n a all h = absurd all
object-of (r ∷ requests) [] n a all h = absurd h
object-of (r ∷ requests) (x ∷ objects) n a all h =
    elim h [
      | inl here ↦ (x, inl refl, all.0.id ∙ same_length requests objects all.1 ∙ sym (length-map objects (λ (o : Object). o.answer)) ∙ here.0, here.1)
      | inr there ↦ (let old = object-of requests objects n a all.1 there in (old.0, inr old.1, old.2, old.3))
    ]

number-map : (n : ℕ) (o : Object) (objects : List Object) → IsNumber n o objects → IsNumber n o.answer (map (λ (x : Object). x.answer) objects)
number-map n o [] h = absurd h
number-map n o (x ∷ objects) h =
    elim h [
      | inl here ↦ inl (length-map objects (λ (y : Object). y.answer) ∙ here.0, ap (λ (y : Object). y.answer) here.1)
      | inr there ↦ inr (number-map n o objects there)
    ]

-- the printed answer of an object
pub answer-of : (answers : List Answer) (objects : List Object) (o : Object) → map (λ (x : Object). x.answer) objects ≡ reverse answers → IsNumber o.id o objects → slice_get answers o.id ≡ Some o.answer
answer-of answers objects o printed number =
    let at = number-get o.id o.answer (map (λ (x : Object). x.answer) objects) (number-map o.id o objects number) in
    let e : reverse (map (λ (x : Object). x.answer) objects) ≡ answers = ap (λ (xs : List Answer). reverse xs) printed ∙ reverse-reverse answers in
    sym (ap (λ (xs : List Answer). slice_get xs o.id) e) ∙ at

-- the events of requests are those of the cycles
pub requests-events : (first : ℕ) (cycles : List Cycle) → map (λ (r : Request). r.event) (requests_from first cycles) ≡ flat_map (λ (c : Cycle). c.events) cycles
requests-events first [] = refl
requests-events first (c ∷ cycles) =
    map-append (λ (r : Request). r.event) (map (λ (e : Event). record { cycle = first; event = e }) c.events) (requests_from (first + 1) cycles)
    ∙ ap (λ (es : List Event). es ++ map (λ (r : Request). r.event) (requests_from (first + 1) cycles)) (unwrapped first c.events)
    ∙ ap (λ (es : List Event). c.events ++ es) (requests-events (first + 1) cycles)
  where
    unwrapped : (first : ℕ) (events : List Event) → map (λ (r : Request). r.event) (map (λ (e : Event). record { cycle = first; event = e }) events) ≡ events
    unwrapped first [] = refl
    unwrapped first (e ∷ events) = ap (λ (es : List Event). e ∷ es) (unwrapped first events)

-- the event of an object's request
pub event-of : (t : Trace) (m n : ℕ) (r : Request) → IsNumber n r (requests_before t m) → slice_get (events_of t) n ≡ Some r.event
event-of t m n r h =
    let at = number-get n r (requests_before t m) h in
    let front : slice_get (requests_from 0 (take m t.cycles)) n ≡ Some r = sym (ap (λ (rs : List Request). slice_get rs n) (reverse-reverse (requests_from 0 (take m t.cycles)))) ∙ at in
    let event : slice_get (flat_map (λ (c : Cycle). c.events) (take m t.cycles)) n ≡ Some r.event =
    sym (ap (λ (es : List Event). slice_get es n) (requests-events 0 (take m t.cycles))) ∙ slice_get-map (λ (x : Request). x.event) (requests_from 0 (take m t.cycles)) n ∙ ap (λ (o : Option Request). option_map (λ (x : Request). x.event) o) front in
    let whole : events_of t ≡ flat_map (λ (c : Cycle). c.events) (take m t.cycles) ++ flat_map (λ (c : Cycle). c.events) (drop m t.cycles) =
    ap (λ (cs : List Cycle). flat_map (λ (c : Cycle). c.events) cs) (sym (take-append-drop m t.cycles)) ∙ flat_map-append (λ (c : Cycle). c.events) (take m t.cycles) (drop m t.cycles) in
    ap (λ (es : List Event). slice_get es n) whole ∙ get-front _ _ n r.event event

-- ---- places

-- an object that sits in a life is placed there
pub sits-place : (size : ℕ) (scan : Bool) (address : ℕ) (o : Object) (life : Life) (k : ℕ) → 1 ≤ size → IsNeed size scan o.need → o.answer ≡ Placed address → Sits o life k → IsPlace size address life.page k
sits-place size scan address o life k some fits answer sits =
    let at = sits.address in
    let e : address ≡ 0xc000000000 + 8192 * life.page + o.need.slot * k = cc in
    record { some = some; scan = scan; need = o.need; fits = fits; slot = record { index = sits.index; start = e } }

pub sits-one : (size : ℕ) (scan : Bool) (address : ℕ) (o : Object) (life : Life) (k page j : ℕ) → IsNeed size scan o.need → o.answer ≡ Placed address → Sits o life k → IsPlace size address page j
    → (life.page ≡ page) × (k ≡ j)
sits-one size scan address o life k page j fits answer sits place =
    place-one size address life.page page k j (sits-place size scan address o life k place.some fits answer sits) place

pub placed-address : (a : Answer) → is_placed a ≡ true → (address : ℕ) × (a ≡ Placed address)
placed-address (Placed address) h = (address, refl)
placed-address Zero h = cc
placed-address (Missed line) h = cc

-- what is known of a placed object of a run
pub record IsKnown (t : Trace) (m : ℕ) (answers : List Answer) (o : Object) : Type 0 where
  pub request : Request
  pub address : ℕ
  pub answer : o.answer ≡ Placed address
  pub asked : slice_get (events_of t) o.id ≡ Some request.event
  pub answered : slice_get answers o.id ≡ Some (Placed address)
  pub some : 1 ≤ request.event.size
  pub fits : IsNeed request.event.size request.event.scan o.need

pub known : (t : Trace) (m : ℕ) (answers : List Answer) (objects : List Object) (o : Object) → AreObjectsBefore t m answers objects → In o objects → is_placed o.answer ≡ true → IsKnown t m answers o
known t m answers objects o are h placed =
    let has = request-of (requests_before t m) objects o are.asked h in
    let at = placed-address o.answer placed in
    let some : 1 ≤ has.request.event.size = elim (cases_lt 0 has.request.event.size) [
      | inl lt ↦ lt
      | inr none ↦ (let zero : o.answer ≡ Zero = has.answers.zero.1 (omega arith) in let e = at.1 in absurd cc)
    ] in
    record {
      request = has.request;
      address = at.0;
      answer = at.1;
      asked = event-of t m o.id has.request has.asked;
      answered = answer-of answers objects o are.printed has.number ∙ ap Some at.1;
      some = some;
      fits = has.answers.need some;
    }

-- ---- what a run shows of what the search for marks asks

-- there is one answer for each object before the mark end
pub answers-before : (t : Trace) (m : ℕ) (answers : List Answer) (objects : List Object) → AreObjectsBefore t m answers objects → length answers ≡ objects_before t m
answers-before t m answers objects are =
    let printed = ap (λ (xs : List Answer). length xs) are.printed in
    let a : length (map (λ (o : Object). o.answer) objects) ≡ length objects = length-map objects (λ (o : Object). o.answer) in
    let b : length (reverse answers) ≡ length answers = length-reverse answers in
    let c : length (requests_before t m) ≡ length (requests_from 0 (take m t.cycles)) = length-reverse (requests_from 0 (take m t.cycles)) in
    let d = same_length (requests_before t m) objects are.asked in
    let e : length (map (λ (r : Request). r.event) (requests_from 0 (take m t.cycles))) ≡ length (requests_from 0 (take m t.cycles)) = length-map (requests_from 0 (take m t.cycles)) (λ (r : Request). r.event) in
    let f = ap (λ (es : List Event). length es) (requests-events 0 (take m t.cycles)) in
    omega arith

-- an answer is zero exactly where the size is 0
pub objects-zeros : (t : Trace) (answers : List Answer) (objects : List Object) → AreObjectsOf t answers objects → AreZeros t answers
objects-zeros t answers objects of i event at =
    let e : reverse (map (λ (x : Object). x.answer) objects) ≡ answers = ap (λ (xs : List Answer). reverse xs) of.printed ∙ reverse-reverse answers in (
      (λ zero. (
          let number = get-number i Zero (map (λ (x : Object). x.answer) objects) (ap (λ (xs : List Answer). slice_get xs i) e ∙ zero) in
          let found = object-of (requests_of t) objects i Zero of.asked number in
          let has = request-of (requests_of t) objects found.0 of.asked found.1 in
          let same : has.request.event ≡ event = event-same t i found.0 has.request event found.2 has.asked at in
          sym (ap (λ (x : Event). x.size) same) ∙ has.answers.zero.0 found.3)),
      (λ empty. (
          let lt : i < length answers = (
          let a = slice_get_within (events_of t) i event at in
          let b = answers-of t answers objects of in
          omega arith) in
          let some = some-at answers i lt in
          let number = get-number i some.0 (map (λ (x : Object). x.answer) objects) (ap (λ (xs : List Answer). slice_get xs i) e ∙ some.1) in
          let found = object-of (requests_of t) objects i some.0 of.asked number in
          let has = request-of (requests_of t) objects found.0 of.asked found.1 in
          let same : has.request.event ≡ event = event-same t i found.0 has.request event found.2 has.asked at in
          let zero : found.0.answer ≡ Zero = has.answers.zero.1 (ap (λ (x : Event). x.size) same ∙ empty) in
          some.1 ∙ ap Some (sym found.3 ∙ zero))),
    )
  where
    some-at : (xs : List Answer) (n : ℕ) → n < length xs → (x : Answer) × (slice_get xs n ≡ Some x)
    some-at [] n lt = absurd (omega arith)
    some-at (x ∷ xs) zero lt = (x, refl)
    some-at (x ∷ xs) (suc n) lt = some-at xs n (omega arith)

    whole : (t : Trace) (n : ℕ) (r : Request) → IsNumber n r (requests_of t) → slice_get (events_of t) n ≡ Some r.event
    whole t n r h =
        let front : slice_get (requests_from 0 t.cycles) n ≡ Some r = sym (ap (λ (rs : List Request). slice_get rs n) (reverse-reverse (requests_from 0 t.cycles))) ∙ number-get n r (requests_of t) h in
        sym (ap (λ (es : List Event). slice_get es n) (requests-events 0 t.cycles)) ∙ slice_get-map (λ (x : Request). x.event) (requests_from 0 t.cycles) n ∙ ap (λ (o : Option Request). option_map (λ (x : Request). x.event) o) front

    event-same : (t : Trace) (n : ℕ) (o : Object) (r : Request) (event : Event) → o.id ≡ n → IsNumber o.id r (requests_of t) → slice_get (events_of t) n ≡ Some event → r.event ≡ event
    event-same t n o r event id asked at =
        let h = whole t o.id r asked in
        let h' : slice_get (events_of t) n ≡ Some r.event = ap (λ (k : ℕ). slice_get (events_of t) k) (sym id) ∙ h in
        cc

    answers-of : (t : Trace) (answers : List Answer) (objects : List Object) → AreObjectsOf t answers objects → length answers ≡ length (events_of t)
    answers-of t answers objects of =
        let printed = ap (λ (xs : List Answer). length xs) of.printed in
        let a : length (map (λ (o : Object). o.answer) objects) ≡ length objects = length-map objects (λ (o : Object). o.answer) in
        let b : length (reverse answers) ≡ length answers = length-reverse answers in
        let c : length (requests_of t) ≡ length (requests_from 0 t.cycles) = length-reverse (requests_from 0 t.cycles) in
        let d = same_length (requests_of t) objects of.asked in
        let e : length (map (λ (r : Request). r.event) (requests_from 0 t.cycles)) ≡ length (requests_from 0 t.cycles) = length-map (requests_from 0 t.cycles) (λ (r : Request). r.event) in
        let f = ap (λ (es : List Event). length es) (requests-events 0 t.cycles) in
        omega arith
