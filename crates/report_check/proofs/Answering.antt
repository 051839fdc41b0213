-- Rule 1 of a trace, one answer more at a time.
use Rattle.std.proofs.Common.{◌≡◌, ℕ, ◌+◌, ◌<◌, ◌≤◌, false, List, length, get_or, Some, sym, ◌∙◌, ap, subst, arith, ◌↔◌}
use Rattle.std.specs.List.{slice_get}
use Rattle.std.proofs.lemmas.Option.{slice_get_within, slice_get-get_or}
use Rattle.trace_reader.specs.declared.trace.Trace.{Trace}
use Rattle.trace_reader.specs.declared.trace.Cycle.{Cycle}
use Rattle.trace_reader.specs.declared.trace.Event.{Event}
use Rattle.trace_reader.specs.Limits.{events_of}
use Rattle.cycle_history.specs.declared.Answer.{Answer}
use Rattle.cycle_history.specs.declared.Answer.TheVariants.{Zero}
use Rattle.cycle_history.specs.declared.Report.{Report}
use Rattle.cycle_history.specs.Before.{objects_before}
use Rattle.cycle_history.proofs.Found.{cycle-event}
use Rattle.report_check.specs.Lines.{end_of, IsLeast}
use Rattle.report_check.specs.Answers.{BreaksAnswers}
use Rattle.report_check.proofs.Answered.{AreRight, right-more, wrong-first, wrong-behind, missing-last}
use Rattle.report_check.specs.Answered.{AreAnsweredTo, IsAnswered}

abbrev RightSize : Answer → Event → Type 0
RightSize a e = (a ≡ Zero) ↔ (e.size ≡ 0)

pub answered-none : (t : Trace) (report : Report) → AreAnsweredTo t report 0
answered-none t report = record { few = omega arith; right = λ i a lt. absurd (omega arith) }

right-to : (t : Trace) (report : Report) (n : ℕ) → AreAnsweredTo t report n → AreRight t report n
right-to t report n is = record { right = is.right }

-- what is given of an object of a cycle
pub record IsAt (t : Trace) (c k n : ℕ) (events : List Event) : Type 0 where
  pub cycle : c < length t.cycles
  pub those : (d : Cycle) → events ≡ (get_or t.cycles c d).events
  pub inside : k < length events
  pub number : n ≡ objects_before t c + k

event-at : (t : Trace) (c k n : ℕ) (events : List Event) (d : Event) → IsAt t c k n events → slice_get (events_of t) n ≡ Some (get_or events k d)
event-at t c k n events d at = ap (λ (i : ℕ). slice_get (events_of t) i) at.number ∙ cycle-event t c k events d at.cycle at.those at.inside

none : Event
none = record { proc = 0; size = 0; scan = false; stack = 0 }

inside-all : (t : Trace) (c k n : ℕ) (events : List Event) → IsAt t c k n events → n < length (events_of t)
inside-all t c k n events at = slice_get_within (events_of t) n (get_or events k none) (event-at t c k n events none at)

pub answered-more : (t : Trace) (report : Report) (c k n : ℕ) (events : List Event) (d : Event) (answers : List Answer) (da : Answer) → IsAt t c k n events → answers ≡ report.answers → n < length answers
    → RightSize (get_or answers n da) (get_or events k d) → AreAnsweredTo t report n → AreAnsweredTo t report (n + 1)
answered-more t report c k n events d answers da at same lt iff old =
    let size = ap (λ (xs : List Answer). length xs) same in
    let printed : slice_get report.answers n ≡ Some (get_or answers n da) = sym (ap (λ (xs : List Answer). slice_get xs n) same) ∙ slice_get-get_or answers n da lt in
    let all = right-more t report n (get_or answers n da) (right-to t report n old) printed (record { event = get_or events k d; asked = event-at t c k n events d at; zero = iff }) in
    record { few = omega arith; right = all.right }

pub answer-wrong : (t : Trace) (report : Report) (c k n : ℕ) (events : List Event) (d : Event) (answers : List Answer) (da : Answer) → IsAt t c k n events → answers ≡ report.answers → n < length answers
    → ¬ RightSize (get_or answers n da) (get_or events k d) → AreAnsweredTo t report n → IsLeast (BreaksAnswers t report) (n + 1)
answer-wrong t report c k n events d answers da at same lt off old =
    let printed : slice_get report.answers n ≡ Some (get_or answers n da) = sym (ap (λ (xs : List Answer). slice_get xs n) same) ∙ slice_get-get_or answers n da lt in
    wrong-first t report n (get_or answers n da) (right-to t report n old) printed (λ right. (
    let here = event-at t c k n events d at in
    let there = right.asked in
    let event : right.event ≡ get_or events k d = cc in
    off (subst (λ (x : Event). RightSize (get_or answers n da) x) event right.zero)))

pub answer-missing : (t : Trace) (report : Report) (c k n line : ℕ) (events : List Event) (answers : List Answer) → IsAt t c k n events → answers ≡ report.answers → n ≡ length answers
    → line ≡ end_of report → AreAnsweredTo t report n → IsLeast (BreaksAnswers t report) line
answer-missing t report c k n line events answers at same all end old =
    let size : n ≡ length report.answers = all ∙ ap (λ (xs : List Answer). length xs) same in
    let lt = inside-all t c k n events at in
    subst (λ (l : ℕ). IsLeast (BreaksAnswers t report) l) (sym end)
    (missing-last t report (subst (λ (m : ℕ). AreRight t report m) size (right-to t report n old)) (omega arith))

pub answer-behind : (t : Trace) (report : Report) (n : ℕ) → length (events_of t) ≤ n → n < length report.answers → AreAnsweredTo t report n → IsLeast (BreaksAnswers t report) (n + 1)
answer-behind t report n le lt old =
    wrong-first t report n (get_or report.answers n Zero) (right-to t report n old) (slice_get-get_or report.answers n Zero lt) (wrong-behind t n (get_or report.answers n Zero) le)

pub answered-all : (t : Trace) (report : Report) (n : ℕ) → n ≡ length (events_of t) → length report.answers ≤ n → AreAnsweredTo t report n → IsAnswered t report
answered-all t report n all le old = record {
  one = (let few = old.few in omega arith);
  right = λ i a at. old.right i a (let lt = slice_get_within report.answers i a at in omega arith) at;
}
