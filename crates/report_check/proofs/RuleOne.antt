-- Where there is one right answer for each object, rule 1 is met, and the trace's base has its answers too.
use Rattle.std.proofs.Common.{◌≡◌, ℕ, ◌<◌, List, length, Some, refl, sym, ◌∙◌, ap, subst, arith, inl, inr, ◌↔◌}
use Rattle.std.specs.List.{slice_get}
use Rattle.std.proofs.lemmas.Option.{same_Some, slice_get_within}
use Rattle.trace_reader.specs.declared.trace.Trace.{Trace}
use Rattle.trace_reader.specs.declared.trace.Event.{Event}
use Rattle.cycle_history.specs.declared.Answer.{Answer}
use Rattle.cycle_history.specs.declared.Answer.TheVariants.{Zero}
use Rattle.cycle_history.specs.declared.Report.{Report}
use Rattle.cycle_history.specs.Requests.{Request, requests_from}
use Rattle.cycle_history.specs.Broken.{MeetsRules}
use Rattle.cycle_history.proofs.Counted.{get-some}
use Rattle.report_check.specs.Answers.{BreaksAnswers, IsRightAnswer}
use Rattle.tiny_alloc.specs.declared.base.Based.{Based}
use Rattle.tiny_alloc.specs.declared.part.Part.{Part}
use Rattle.tiny_alloc.specs.declared.part.Part.TheVariants.{Other, Lead, Ride}
use Rattle.tiny_alloc.specs.Riders.{part_at}
use Rattle.tiny_alloc.specs.Base.{based_answer, based_event, IsBase}
use Rattle.tiny_alloc.specs.Sound.{based_report}
use Rattle.tiny_alloc.proofs.Leading.{lead-some}
use Rattle.tiny_alloc.proofs.OfBase.{answer-at, based_request, request-at}
use Rattle.tiny_alloc.proofs.Listed.{answers-length}
use Rattle.tiny_alloc.proofs.Limited.{events-many}
use Rattle.tiny_alloc.proofs.Made.{meets-right, request-event, requests-length}
use Rattle.report_check.specs.Answered.{IsAnswered}

-- ---- the trace itself

zero-iff : (t : Trace) (i : ℕ) (r : Request) (a : Answer) → slice_get (requests_from 0 t.cycles) i ≡ Some r → IsRightAnswer t i a → (a ≡ Zero) ↔ (r.event.size ≡ 0)
zero-iff t i r a at right =
    let e : right.event ≡ r.event = same_Some right.event r.event (sym right.asked ∙ request-event t i r at) in
    subst (λ (x : Event). (a ≡ Zero) ↔ (x.size ≡ 0)) e right.zero

pub meets-answers : (t : Trace) (report : Report) → IsAnswered t report → MeetsRules 1 t report
meets-answers t report is =
    meets-right t report (is.one ∙ sym (requests-length t)) (λ i r a at answered. zero-iff t i r a at (is.right i a answered))

-- ---- its base

zero-based : (part : Part) (e : Event) (a : Answer) → (a ≡ Zero) ↔ (e.size ≡ 0) → (part ≡ Lead → 0 < e.size) → (based_answer part a ≡ Zero) ↔ ((based_event part e).size ≡ 0)
zero-based Other e a iff some = iff
zero-based Lead e a iff some = ((λ z. (let none = iff.0 z in let lt = some refl in absurd (omega arith))), (λ none. absurd (omega arith)))
zero-based (Ride lead offset) e a iff some = ((λ z. refl), (λ none. refl))

pub base-right : (t : Trace) (report : Report) (based : Based) → IsAnswered t report → IsBase t report.answers based
    → (i : ℕ) (a : Answer) → slice_get based.answers i ≡ Some a → IsRightAnswer based.trace i a
base-right t report based is base i a at =
    let part = part_at t report.answers in
    let size : length based.answers ≡ length report.answers = ap (λ (xs : List Answer). length xs) base.printed ∙ answers-length part 0 report.answers in
    let within = slice_get_within based.answers i a at in
    let own = get-some report.answers i (omega arith) in
    let many = requests-length t in
    let one = is.one in
    let r = get-some (requests_from 0 t.cycles) i (omega arith) in
    let answer : slice_get based.answers i ≡ Some (based_answer (part i) own.0) = ap (λ (xs : List Answer). slice_get xs i) base.printed ∙ answer-at part 0 report.answers i i own.0 (omega arith) own.1 in
    let same : based_answer (part i) own.0 ≡ a = same_Some (based_answer (part i) own.0) a (sym answer ∙ at) in
    let request = request-at part 0 0 t.cycles based.trace.cycles base.cycles i i r.0 (omega arith) r.1 in
    let iff = zero-iff t i r.0 own.0 r.1 (is.right i own.0 own.1) in
    record {
      event = based_event (part i) r.0.event;
      asked = request-event based.trace i (based_request (part i) r.0) request;
      zero = subst (λ (x : Answer). (x ≡ Zero) ↔ ((based_event (part i) r.0.event).size ≡ 0)) same (zero-based (part i) r.0.event own.0 iff (lead-some t report.answers i r.0 own.0 r.1 own.1));
    }

-- so no line of the base's report breaks rule 1
pub base-answered : (t : Trace) (report : Report) (based : Based) (line : ℕ) → IsAnswered t report → IsBase t report.answers based → ¬ BreaksAnswers based.trace (based_report report based) line
base-answered t report based line is base breaks = elim breaks [
  | inl w ↦ w.1.wrong (base-right t report based is base w.0 w.1.answer w.1.printed)
  | inr e ↦ (
      let part = part_at t report.answers in
      let size : length based.answers ≡ length report.answers = ap (λ (xs : List Answer). length xs) base.printed ∙ answers-length part 0 report.answers in
      let many = events-many part 0 t.cycles based.trace.cycles base.cycles in
      let one = is.one in
      let lt = e.0 in
      absurd (omega arith))
]
