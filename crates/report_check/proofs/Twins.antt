-- Two lists of objects that answer one trace alike.
use Rattle.std.proofs.Common.{◌≡◌, ◌≢◌, ℕ, suc, ◌*◌, ◌≤◌, List, [], ◌∷◌, length, map, reverse, Option, Some, refl, sym, ◌∙◌, ap, subst, arith, inl, inr}
use Rattle.std.specs.List.{slice_get}
use Rattle.std.specs.Option.{option_map}
use Rattle.std.proofs.lemmas.Bool.{cases_lt}
use Rattle.std.proofs.lemmas.Option.{slice_get-map}
use Rattle.std.proofs.lemmas.List.{reverse-reverse, length-reverse, length-map}
use Rattle.size_classes.specs.Classes.{slot_of, pages_of, objects_of, span_class_of}
use Rattle.page_alloc.specs.Lists.{In, IsNumber}
use Rattle.trace_reader.specs.declared.trace.Trace.{Trace}
use Rattle.trace_reader.specs.declared.trace.Event.{Event}
use Rattle.trace_reader.specs.Limits.{events_of}
use Rattle.cycle_history.specs.declared.Answer.{Answer}
use Rattle.cycle_history.specs.declared.Answer.TheVariants.{Zero}
use Rattle.cycle_history.specs.declared.Report.{Report}
use Rattle.cycle_history.specs.Needs.{Need, IsNeed}
use Rattle.cycle_history.specs.Requests.{Request, requests_of, requests_from}
use Rattle.cycle_history.specs.Objects.{Object}
use Rattle.cycle_history.specs.Rules.{IsObject, AreAnswered}
use Rattle.cycle_history.specs.Sound.{HasAnswers}
use Rattle.cycle_history.proofs.OnePlace.{least-one}
use Rattle.cycle_history.proofs.OfObjects.{request-of, object-of, answer-of, number-get, get-number, requests-events}

need-same : (a b : Need) → a.class ≡ b.class → a.pages ≡ b.pages → a.slot ≡ b.slot → a.count ≡ b.count → a ≡ b
need-same a b e1 e2 e3 e4 =
    let made : ℕ → ℕ → ℕ → ℕ → Need = λ class pages slot count. record { class = class; pages = pages; slot = slot; count = count } in
    let e : made a.class a.pages a.slot a.count ≡ made b.class b.pages b.slot b.count = cc in e

-- a size has one need
pub need-one : (r : Request) (a b : Need) → IsNeed r.event.size r.event.scan a → IsNeed r.event.size r.event.scan b → a ≡ b
need-one r a b na nb = elim (cases_lt 32768 r.event.size) [
  | inl large ↦ (
      let la = na.large large in
      let lb = nb.large large in
      let e2 : a.pages ≡ b.pages = la.pages ∙ sym lb.pages in
      need-same a b (la.class ∙ sym lb.class) e2 (la.slot ∙ (ap (λ (p : ℕ). 8192 * p) e2 ∙ sym lb.slot)) (la.count ∙ sym lb.count))
  | inr small ↦ (
      let sa = na.small small in
      let sb = nb.small small in
      let same : sa.0 ≡ sb.0 = least-one r.event.size sa.0 sb.0 sa.1 sb.1 in
      need-same a b
      (sa.2.class ∙ (ap (λ (c : ℕ). span_class_of c r.event.scan) same ∙ sym sb.2.class))
      (sa.2.pages ∙ (ap pages_of same ∙ sym sb.2.pages))
      (sa.2.slot ∙ (ap slot_of same ∙ sym sb.2.slot))
      (sa.2.count ∙ (ap objects_of same ∙ sym sb.2.count)))
]

number-one : {X : Type 0} (n : ℕ) (a b : X) (xs : List X) → IsNumber n a xs → IsNumber n b xs → a ≡ b
number-one n a b xs ia ib = let ea = number-get n a xs ia in let eb = number-get n b xs ib in cc

-- an object of the other list with the same number, cycle, answer and need
pub record IsTwin (o twin : Object) : Type 0 where
  pub id : twin.id ≡ o.id
  pub answer : twin.answer ≡ o.answer
  pub cycle : twin.cycle ≡ o.cycle
  pub proc : twin.proc ≡ o.proc
  pub need : o.answer ≢ Zero → twin.need ≡ o.need

abbrev pub HasTwin : List Object → Object → Type 0
HasTwin others o = (twin : Object) × In twin others × IsTwin o twin

pub twin-of : (t : Trace) (report : Report) (objects others : List Object) (o : Object) → HasAnswers t report objects → HasAnswers t report others → In o objects → HasTwin others o
twin-of t report objects others o here there i =
    let asks = request-of (requests_of t) objects o here.asked i in
    let printed : slice_get report.answers o.id ≡ Some o.answer = answer-of report.answers objects o here.printed asks.number in
    let turned : slice_get (reverse (reverse report.answers)) o.id ≡ Some o.answer = subst (λ (xs : List Answer). slice_get xs o.id ≡ Some o.answer) (sym (reverse-reverse report.answers)) printed in
    let number : IsNumber o.id o.answer (map (λ (x : Object). x.answer) others) = subst (λ (xs : List Answer). IsNumber o.id o.answer xs) (sym there.printed) (get-number o.id o.answer (reverse report.answers) turned) in
    let found = object-of (requests_of t) others o.id o.answer there.asked number in
    let asks' = request-of (requests_of t) others found.0 there.asked found.1 in
    let asked' : IsNumber o.id asks'.request (requests_of t) = subst (λ (n : ℕ). IsNumber n asks'.request (requests_of t)) found.2 asks'.asked in
    let same : asks'.request ≡ asks.request = number-one o.id asks'.request asks.request (requests_of t) asked' asks.asked in
    let is : IsObject asks.request found.0.id found.0 = subst (λ (r : Request). IsObject r found.0.id found.0) same asks'.answers in (
      found.0,
      found.1,
      record {
        id = found.2;
        answer = found.3;
        cycle = is.cycle ∙ sym asks.answers.cycle;
        proc = is.proc ∙ sym asks.answers.proc;
        need = λ sized. (
            let some : 1 ≤ asks.request.event.size = sized_from asks.request.event.size (λ none. sized (asks.answers.zero.1 none)) in
            need-one asks.request found.0.need o.need (is.need some) (asks.answers.need some));
      },
    )
  where
    sized_from : (size : ℕ) → (size ≡ 0 → ⊥) → 1 ≤ size
    sized_from size some = omega arith

same-length : (requests : List Request) (objects : List Object) → AreAnswered requests objects → length requests ≡ length objects
same-length [] [] h = refl
same-length [] (o ∷ objects) h = absurd h
same-length (r ∷ requests) [] h = absurd h
same-length (r ∷ requests) (o ∷ objects) h = ap suc (same-length requests objects h.1)

-- as many answers as events
pub answers-length : (t : Trace) (report : Report) (objects : List Object) → HasAnswers t report objects → length report.answers ≡ length (events_of t)
answers-length t report objects has =
    let one = same-length (requests_of t) objects has.asked in
    let two : length (map (λ (o : Object). o.answer) objects) ≡ length (reverse report.answers) = ap (λ (xs : List Answer). length xs) has.printed in
    let three = length-map objects (λ (o : Object). o.answer) in
    let four = length-reverse report.answers in
    let five = length-reverse (requests_from 0 t.cycles) in
    let six : length (map (λ (r : Request). r.event) (requests_from 0 t.cycles)) ≡ length (events_of t) = ap (λ (es : List Event). length es) (requests-events 0 t.cycles) in
    let seven = length-map (requests_from 0 t.cycles) (λ (r : Request). r.event) in
    omega arith

-- the event of a request with its number
pub event-at : (t : Trace) (n : ℕ) (r : Request) → IsNumber n r (requests_of t) → slice_get (events_of t) n ≡ Some r.event
event-at t n r h =
    let at : slice_get (reverse (requests_of t)) n ≡ Some r = number-get n r (requests_of t) h in
    let front : slice_get (requests_from 0 t.cycles) n ≡ Some r = subst (λ (rs : List Request). slice_get rs n ≡ Some r) (reverse-reverse (requests_from 0 t.cycles)) at in
    sym (ap (λ (es : List Event). slice_get es n) (requests-events 0 t.cycles))
    ∙ (slice_get-map (λ (x : Request). x.event) (requests_from 0 t.cycles) n ∙ ap (λ (o : Option Request). option_map (λ (x : Request). x.event) o) front)
