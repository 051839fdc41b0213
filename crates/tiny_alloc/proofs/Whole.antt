-- Where the base of a report is sound and its riders are where they ride, the report of the trace itself is sound.
use Rattle.std.proofs.Common.{◌≡◌, ◌≢◌, ℕ, ◌+◌, ◌<◌, List, length, map, reverse, refl, sym, ◌∙◌, ap, subst, arith, ◌↔◌}
use Rattle.std.proofs.lemmas.List.{length-map, length-reverse}
use Rattle.std.proofs.lemmas.Option.{same_Some}
use Rattle.trace_reader.specs.declared.trace.Trace.{Trace}
use Rattle.trace_reader.specs.declared.trace.Event.{Event}
use Rattle.cycle_history.specs.declared.Answer.{Answer}
use Rattle.cycle_history.specs.declared.Answer.TheVariants.{Placed, Zero}
use Rattle.cycle_history.specs.declared.Report.{Report}
use Rattle.cycle_history.specs.Requests.{requests_from, requests_of}
use Rattle.cycle_history.specs.Objects.{Object}
use Rattle.cycle_history.specs.Sound.{HasAnswers, IsSound}
use Rattle.cycle_history.proofs.Plain.{same_length}
use Rattle.tiny_alloc.specs.declared.base.Based.{Based}
use Rattle.tiny_alloc.specs.declared.part.Part.{Part}
use Rattle.tiny_alloc.specs.declared.part.Part.TheVariants.{Other, Lead, Ride}
use Rattle.tiny_alloc.specs.Riders.{part_at}
use Rattle.tiny_alloc.specs.Base.{based_answer, based_event, IsBase}
use Rattle.tiny_alloc.specs.Sound.{AreRiding, based_report, IsSoundTiny}
use Rattle.tiny_alloc.proofs.Leading.{lead-some, ride-some}
use Rattle.tiny_alloc.proofs.Limited.{events-many}
use Rattle.tiny_alloc.proofs.Listed.{answers-length}
use Rattle.tiny_alloc.proofs.Made.{AreRight, meets-right, requests-length}
use Rattle.tiny_alloc.proofs.OfBase.{object-at}

-- ---- one answer

zero-own : (part : Part) (e : Event) (a : Answer) → (based_answer part a ≡ Zero) ↔ ((based_event part e).size ≡ 0) → (part ≡ Lead → 0 < e.size)
    → ((lead offset : ℕ) → part ≡ Ride lead offset → (a ≢ Zero) × (0 < e.size)) → (a ≡ Zero) ↔ (e.size ≡ 0)
zero-own Other e a iff leads rides = iff
zero-own Lead e a iff leads rides = ((λ zero. (let none = iff.0 zero in absurd (omega arith))), (λ none. (let some = leads refl in absurd (omega arith))))
zero-own (Ride lead offset) e a iff leads rides = (
  (λ zero. absurd ((rides lead offset refl).0 zero)),
  (λ none. (let some = (rides lead offset refl).1 in absurd (omega arith))),
)

placed-some : (a : Answer) (address : ℕ) → a ≡ Placed address → a ≢ Zero
placed-some a address placed zero = (let e : Placed address ≡ Zero = sym placed ∙ zero in cc)

all-right : (t : Trace) (report : Report) (based : Based) (objects : List Object) → IsBase t report.answers based → HasAnswers based.trace (based_report report based) objects → AreRiding t report.answers
    → AreRight (requests_from 0 t.cycles) report.answers
all-right t report based objects base of riding i r a asked answered =
    let part = part_at t report.answers in
    let found = object-at part t report based objects base of i r a asked answered in
    let own : (based_answer (part i) a ≡ Zero) ↔ ((based_event (part i) r.event).size ≡ 0) = subst (λ (x : Answer). (x ≡ Zero) ↔ ((based_event (part i) r.event).size ≡ 0)) found.3 found.4.zero in
    zero-own (part i) r.event a own (lead-some t report.answers i r a asked answered) (λ lead offset is.
    let at = riding i lead offset is in
    let placed = same_Some a (Placed (at.0 + offset)) (sym answered ∙ at.2) in
    (placed-some a (at.0 + offset) placed, ride-some t report.answers i r a lead offset asked answered is))

-- ---- as many answers as requests

as-many : (t : Trace) (report : Report) (based : Based) (objects : List Object) → IsBase t report.answers based → HasAnswers based.trace (based_report report based) objects
    → length report.answers ≡ length (requests_from 0 t.cycles)
as-many t report based objects base of =
    let part = part_at t report.answers in
    let printed : length (map (λ (o : Object). o.answer) objects) ≡ length (reverse based.answers) = ap (λ (xs : List Answer). length xs) of.printed in
    let mapped = length-map objects (λ (o : Object). o.answer) in
    let turned = length-reverse based.answers in
    let own : length based.answers ≡ length report.answers = ap (λ (xs : List Answer). length xs) base.printed ∙ answers-length part 0 report.answers in
    let asked = same_length (requests_of based.trace) objects of.asked in
    let ordered = length-reverse (requests_from 0 based.trace.cycles) in
    let there = requests-length based.trace in
    let here = requests-length t in
    let many = events-many part 0 t.cycles based.trace.cycles base.cycles in
    omega arith

-- ---- the whole

pub tiny-sound : (t : Trace) (report : Report) (based : Based) (objects : List Object) → IsBase t report.answers based → IsSound based.trace (based_report report based) objects
    → AreRiding t report.answers → IsSoundTiny t report based objects
tiny-sound t report based objects base sound riding = record {
  answers = meets-right t report (as-many t report based objects base sound.answers) (all-right t report based objects base sound.answers riding);
  base = base;
  sound = sound;
  riding = riding;
}
