-- Answers that are right about size 0.
use Rattle.std.specs.Prelude.{◌≡◌, ℕ, ◌<◌, ◌≤◌, List, length, Some}
use Rattle.std.specs.List.{slice_get}
use Rattle.trace_reader.specs.declared.trace.Trace.{Trace}
use Rattle.trace_reader.specs.Limits.{events_of}
use Rattle.cycle_history.specs.declared.Answer.{Answer}
use Rattle.cycle_history.specs.declared.Report.{Report}
use Rattle.report_check.specs.Answers.{IsRightAnswer}

-- The first n objects have answers, and these are right.
pub record AreAnsweredTo (t : Trace) (report : Report) (n : ℕ) : Type 0 where
  pub few : n ≤ length report.answers
  pub right : (i : ℕ) (a : Answer) → i < n → slice_get report.answers i ≡ Some a → IsRightAnswer t i a

-- There is one answer for each object, and all are right.
pub record IsAnswered (t : Trace) (report : Report) : Type 0 where
  pub one : length report.answers ≡ length (events_of t)
  pub right : (i : ℕ) (a : Answer) → slice_get report.answers i ≡ Some a → IsRightAnswer t i a

-- A report with other answers.
abbrev pub having_answers : Report → List Answer → Report
having_answers report answers = record report { answers = answers }
