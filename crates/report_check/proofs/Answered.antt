-- Rule 1, one answer more at a time.
use Rattle.std.proofs.Common.{◌≡◌, ◌↔◌, ℕ, zero, suc, ◌+◌, ◌^◌, ◌<◌, ◌≤◌, length-append, List, [], ◌∷◌, ◌++◌, map, reverse, take, length, get_or, Option, Some, refl, sym, ◌∙◌, ap, subst, arith, inl, inr}
use Rattle.std.specs.List.{slice_get, AllByRecursion}
use Rattle.std.specs.Option.{option_map}
use Rattle.std.proofs.lemmas.List.{reverse-append, length-reverse, length-map, length-take-le, take_more, map_push}
use Rattle.std.proofs.lemmas.Bool.{cases_lt}
use Rattle.std.proofs.lemmas.Option.{slice_get-map, slice_get-get_or, slice_get_within}
use Rattle.trace_reader.specs.declared.trace.Trace.{Trace}
use Rattle.trace_reader.specs.declared.trace.Event.{Event}
use Rattle.trace_reader.specs.Limits.{events_of, EventFits}
use Rattle.cycle_history.specs.declared.Answer.{Answer}
use Rattle.cycle_history.specs.declared.Answer.TheVariants.{Zero}
use Rattle.cycle_history.specs.declared.Report.{Report}
use Rattle.cycle_history.specs.Before.{IsLimited}
use Rattle.cycle_history.specs.Requests.{Request, requests_of}
use Rattle.cycle_history.specs.Objects.{Object}
use Rattle.cycle_history.specs.Rules.{IsObject, AreAnswered}
use Rattle.cycle_history.specs.Sound.{HasAnswers}
use Rattle.cycle_history.proofs.OfObjects.{requests-events}
use Rattle.report_check.specs.Lines.{end_of, IsLeast}
use Rattle.report_check.specs.Answers.{IsRightAnswer, BreaksAnswers}
use Rattle.report_check.specs.declared.asked.Asked.{Asked}
use Rattle.report_check.specs.declared.items.Item.{Item}
use Rattle.report_check.specs.Items.{AreRequests, IsItem, object_of, objects_of, request_of}

-- the objects of one item more
pub objects-more : (items : List Item) (item : Item) → objects_of (items ++ item ∷ []) ≡ object_of (length (reverse items)) item ∷ objects_of items
objects-more items item = rw (reverse-append items (item ∷ [])) refl

-- the answers of objects
abbrev pub answers_in : List Object → List Answer
answers_in objects = map (λ (o : Object). o.answer) objects

pub asked-step : (asked : List Asked) (items : List Item) (i : ℕ) (d : Asked) (item : Item) → i < length asked → length items ≡ i
    → AreAnswered (reverse (map request_of (take i asked))) (objects_of items) → IsItem (request_of (get_or asked i d)) item
    → AreAnswered (reverse (map request_of (take (i + 1) asked))) (objects_of (items ++ item ∷ []))
asked-step asked items i d item lt size all is =
    let next = get_or asked i d in
    let front = map request_of (take i asked) in
    let count : length (reverse items) ≡ length (reverse front) =
    length-reverse items ∙ (size ∙ (sym (length-take-le i asked (omega arith)) ∙ (sym (length-map (take i asked) request_of) ∙ sym (length-reverse front)))) in
    let one : IsObject (request_of next) (length (reverse front)) (object_of (length (reverse items)) item) = record { id = count; proc = is.proc; cycle = is.cycle; zero = is.zero; need = is.need } in
    rw (take_more asked i d lt, map_push request_of (take i asked) next, reverse-append front (request_of next ∷ []), objects-more items item) (one, all)

pub printed-step : (answers : List Answer) (items : List Item) (i : ℕ) (d : Answer) (item : Item) → i < length answers → item.answer ≡ get_or answers i d
    → answers_in (objects_of items) ≡ reverse (take i answers)
    → answers_in (objects_of (items ++ item ∷ [])) ≡ reverse (take (i + 1) answers)
printed-step answers items i d item lt is all =
    rw (objects-more items item, take_more answers i d lt, reverse-append (take i answers) (get_or answers i d ∷ []))
    (ap (λ (a : Answer). a ∷ answers_in (objects_of items)) is ∙ ap (λ (rest : List Answer). get_or answers i d ∷ rest) all)

-- ---- right answers

-- the event with a number
pub event-at : (t : Trace) (asked : List Asked) (i : ℕ) (d : Asked) → AreRequests t asked → i < length asked → slice_get (events_of t) i ≡ Some (get_or asked i d).event
event-at t asked i d is lt =
    let same : map (λ (r : Request). r.event) (map request_of asked) ≡ events_of t = ap (λ (rs : List Request). map (λ (r : Request). r.event) rs) is ∙ requests-events 0 t.cycles in
    sym (ap (λ (es : List Event). slice_get es i) same)
    ∙ (slice_get-map (λ (r : Request). r.event) (map request_of asked) i
    ∙ ap (λ (o : Option Request). option_map (λ (r : Request). r.event) o) (slice_get-map request_of asked i ∙ ap (λ (o : Option Asked). option_map request_of o) (slice_get-get_or asked i d lt)))

pub events-length : (t : Trace) (asked : List Asked) → AreRequests t asked → length (events_of t) ≡ length asked
events-length t asked is =
    let same : map (λ (r : Request). r.event) (map request_of asked) ≡ events_of t = ap (λ (rs : List Request). map (λ (r : Request). r.event) rs) is ∙ requests-events 0 t.cycles in
    sym (ap (λ (es : List Event). length es) same) ∙ (length-map (map request_of asked) (λ (r : Request). r.event) ∙ length-map asked request_of)

-- the first n answers are right
pub record AreRight (t : Trace) (report : Report) (n : ℕ) : Type 0 where
  pub right : (k : ℕ) (a : Answer) → k < n → slice_get report.answers k ≡ Some a → IsRightAnswer t k a

pub right-more : (t : Trace) (report : Report) (n : ℕ) (a : Answer) → AreRight t report n → slice_get report.answers n ≡ Some a → IsRightAnswer t n a → AreRight t report (n + 1)
right-more t report n a all printed here = record {
  right = λ k b lt at. elim (cases_lt k n) [
    | inl below ↦ all.right k b below at
    | inr above ↦ (
        let e : k ≡ n = omega arith in
        let at' : slice_get report.answers n ≡ Some b = subst (λ (j : ℕ). slice_get report.answers j ≡ Some b) e at in
        let same : a ≡ b = cc in
        let r : IsRightAnswer t n b = subst (λ (x : Answer). IsRightAnswer t n x) same here in
        subst (λ (j : ℕ). IsRightAnswer t j b) (sym e) r)
  ];
}

-- the first answer that isn't right breaks rule 1 first
pub wrong-first : (t : Trace) (report : Report) (n : ℕ) (a : Answer) → AreRight t report n → slice_get report.answers n ≡ Some a → ¬ IsRightAnswer t n a → IsLeast (BreaksAnswers t report) (n + 1)
wrong-first t report n a all printed wrong = record {
  here = inl (n, record { answer = a; printed = printed; wrong = wrong; stands = refl });
  least = λ m lt breaks. elim breaks [
    | inl w ↦ (let s = w.1.stands in w.1.wrong (all.right w.0 w.1.answer (omega arith) w.1.printed))
    | inr e ↦ (let within = slice_get_within report.answers n a printed in let s = e.1 in absurd (omega arith))
  ];
}

-- an answer behind those of all objects isn't right
pub wrong-behind : (t : Trace) (n : ℕ) (a : Answer) → length (events_of t) ≤ n → ¬ IsRightAnswer t n a
wrong-behind t n a le r = (let within = slice_get_within (events_of t) n r.event r.asked in absurd (omega arith))

-- an object without an answer shows at the end
pub missing-last : (t : Trace) (report : Report) → AreRight t report (length report.answers) → length report.answers < length (events_of t) → IsLeast (BreaksAnswers t report) (end_of report)
missing-last t report all lt = record {
  here = inr (lt, refl);
  least = λ m less breaks. elim breaks [
    | inl w ↦ w.1.wrong (all.right w.0 w.1.answer (slice_get_within report.answers w.0 w.1.answer w.1.printed) w.1.printed)
    | inr e ↦ (let s = e.1 in absurd (omega arith))
  ];
}

-- ---- the loop over requests

-- the first i requests have their objects, and their answers are right
pub record AreDone (t : Trace) (report : Report) (asked : List Asked) (answers : List Answer) (items : List Item) (i : ℕ) : Type 0 where
  pub number : length items ≡ i
  pub few : i ≤ length answers
  pub answered : AreAnswered (reverse (map request_of (take i asked))) (objects_of items)
  pub printed : answers_in (objects_of items) ≡ reverse (take i answers)
  pub right : AreRight t report i

pub done-none : (t : Trace) (report : Report) (asked : List Asked) (answers : List Answer) → AreDone t report asked answers [] 0
done-none t report asked answers = record { number = refl; few = omega arith; answered = tt; printed = refl; right = record { right = λ k a lt. absurd (omega arith) } }

printed-at : (answers slice : List Answer) (n : ℕ) (d : Answer) → slice ≡ answers → n < length slice → slice_get answers n ≡ Some (get_or slice n d)
printed-at answers slice n d same lt = sym (ap (λ (xs : List Answer). slice_get xs n) same) ∙ slice_get-get_or slice n d lt

right-here : (t : Trace) (asked : List Asked) (i : ℕ) (d : Asked) (a : Answer) → AreRequests t asked → i < length asked → (a ≡ Zero) ↔ ((get_or asked i d).event.size ≡ 0) → IsRightAnswer t i a
right-here t asked i d a are lt iff = record { event = (get_or asked i d).event; asked = event-at t asked i d are lt; zero = iff }

pub wrong-zero : (t : Trace) (asked : List Asked) (i : ℕ) (d : Asked) (a : Answer) → AreRequests t asked → i < length asked → ¬ ((a ≡ Zero) ↔ ((get_or asked i d).event.size ≡ 0)) → ¬ IsRightAnswer t i a
wrong-zero t asked i d a are lt off r =
    let here = event-at t asked i d are lt in
    let there = r.asked in
    let same : r.event ≡ (get_or asked i d).event = cc in
    off (subst (λ (e : Event). (a ≡ Zero) ↔ (e.size ≡ 0)) same r.zero)

pub done-more : (t : Trace) (report : Report) (asked : List Asked) (answers : List Answer) (items new : List Item) (i k : ℕ) (d : Asked) (da : Answer) (item : Item)
    → AreRequests t asked → answers ≡ report.answers → i < length asked → k ≡ i → k < length answers → AreDone t report asked answers items i
    → IsItem (request_of (get_or asked i d)) item → item.answer ≡ get_or answers k da → new ≡ items ++ item ∷ [] → AreDone t report asked answers new (i + 1)
done-more t report asked answers items new i k d da item are same lt at inside done is answer more =
    let here : item.answer ≡ get_or answers i da = answer ∙ ap (λ (j : ℕ). get_or answers j da) at in
    let number = done.number in
    let right : IsRightAnswer t i (get_or answers i da) = subst (λ (a : Answer). IsRightAnswer t i a) here (right-here t asked i d item.answer are lt is.zero) in
    let size : length (items ++ item ∷ []) ≡ length items + 1 = length-append items (item ∷ []) in
    rw more (record {
      number = omega arith;
      few = omega arith;
      answered = asked-step asked items i d item lt done.number done.answered is;
      printed = printed-step answers items i da item (omega arith) here done.printed;
      right = right-more t report i (get_or answers i da) done.right (printed-at report.answers answers i da same (omega arith)) right;
    })

pub done-missing : (t : Trace) (report : Report) (asked : List Asked) (answers : List Answer) (items : List Item) (i k line : ℕ) → AreRequests t asked → answers ≡ report.answers
    → AreDone t report asked answers items i → i < length asked → k ≡ length items → k ≡ length answers → line ≡ end_of report → IsLeast (BreaksAnswers t report) line
done-missing t report asked answers items i k line are same done lt number all end =
    let count = events-length t asked are in
    let here = done.number in
    let size : length answers ≡ length report.answers = ap (λ (xs : List Answer). length xs) same in
    let e : i ≡ length report.answers = omega arith in
    rw end (missing-last t report (subst (λ (n : ℕ). AreRight t report n) e done.right) (omega arith))

pub done-wrong : (t : Trace) (report : Report) (asked : List Asked) (answers : List Answer) (items : List Item) (i k : ℕ) (d : Asked) (da : Answer) → AreRequests t asked → answers ≡ report.answers
    → AreDone t report asked answers items i → i < length asked → k ≡ length items → k < length answers → ¬ ((get_or answers k da ≡ Zero) ↔ ((get_or asked i d).event.size ≡ 0))
    → IsLeast (BreaksAnswers t report) (k + 1)
done-wrong t report asked answers items i k d da are same done lt number inside off =
    let e : i ≡ k = sym done.number ∙ sym number in
    let right : AreRight t report k = subst (λ (n : ℕ). AreRight t report n) e done.right in
    let wrong : ¬ IsRightAnswer t k (get_or answers k da) = subst (λ (n : ℕ). ¬ IsRightAnswer t n (get_or answers k da)) e (wrong-zero t asked i d (get_or answers k da) are lt off) in
    wrong-first t report k (get_or answers k da) right (printed-at report.answers answers k da same inside) wrong

pub done-behind : (t : Trace) (report : Report) (asked : List Asked) (answers : List Answer) (items : List Item) (i k n : ℕ) → AreRequests t asked → answers ≡ report.answers
    → AreDone t report asked answers items i → length asked ≤ i → k ≡ length items → n ≡ length items → k < length answers → IsLeast (BreaksAnswers t report) (n + 1)
done-behind t report asked answers items i k n are same done le number again inside =
    let e : i ≡ n = sym done.number ∙ sym again in
    let count = events-length t asked are in
    let right : AreRight t report n = subst (λ (m : ℕ). AreRight t report m) e done.right in
    wrong-first t report n (get_or answers n Zero) right (printed-at report.answers answers n Zero same (omega arith)) (wrong-behind t n (get_or answers n Zero) (omega arith))

all-of : {X : Type 0} (xs : List X) (k : ℕ) → length xs ≤ k → take k xs ≡ xs
all-of [] zero le = refl
all-of [] (suc k) le = refl
all-of {X} (y ∷ ys) zero le = absurd (omega arith)
all-of {X} (y ∷ ys) (suc k) le = ap (λ (l : List X). y ∷ l) (all-of ys k (omega arith))

pub done-all : (t : Trace) (report : Report) (asked : List Asked) (answers : List Answer) (items : List Item) (i k : ℕ) → AreRequests t asked → answers ≡ report.answers
    → AreDone t report asked answers items i → length asked ≤ i → k ≡ length items → length answers ≤ k → HasAnswers t report (objects_of items)
done-all t report asked answers items i k are same done le number all =
    let here = done.number in
    let requests : reverse (map request_of (take i asked)) ≡ requests_of t = ap (λ (rs : List Request). reverse rs) (ap (λ (xs : List Asked). map request_of xs) (all-of asked i le) ∙ are) in
    let printed : reverse (take i answers) ≡ reverse report.answers = ap (λ (xs : List Answer). reverse xs) (all-of answers i (omega arith) ∙ same) in
    record { asked = rw requests at done.answered; printed = done.printed ∙ printed }

pub all-at : (P : Event → Type 0) (xs : List Event) (k : ℕ) (x : Event) → AllByRecursion P xs → slice_get xs k ≡ Some x → P x
all-at P [] k x all is = cc
all-at P (y ∷ xs) zero x all is = (let same : y ≡ x = cc in subst P same all.0)
all-at P (y ∷ xs) (suc k) x all is = all-at P xs k x all.1 is

pub size-at : (t : Trace) (asked : List Asked) (i : ℕ) (d : Asked) → IsLimited t → AreRequests t asked → i < length asked → (get_or asked i d).event.size ≤ 2 ^ 40
size-at t asked i d limited are lt = (all-at (EventFits t.header.procs) (events_of t) i (get_or asked i d).event limited.events (event-at t asked i d are lt)).size
