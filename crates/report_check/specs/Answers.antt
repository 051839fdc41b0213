-- Which lines break the rules 1 to 3: answers, journal and misses.
use Rattle.std.specs.Prelude.{◌≡◌, ◌≢◌, ℕ, ◌+◌, ◌<◌, List, [], length, take, Some, ◌⊎◌, ◌↔◌}
use Rattle.std.specs.List.{slice_get}
use Rattle.page_bitmap.specs.declared.line.Line.{Line}
use Rattle.page_alloc.specs.Lists.{In}
use Rattle.page_alloc.specs.Blocks.{open_blocks}
use Rattle.page_alloc.specs.Journal.{past_of, IsBy, LegalFor}
use Rattle.trace_reader.specs.declared.trace.Trace.{Trace}
use Rattle.trace_reader.specs.declared.trace.Event.{Event}
use Rattle.trace_reader.specs.Limits.{events_of}
use Rattle.cycle_history.specs.declared.Answer.{Answer}
use Rattle.cycle_history.specs.declared.Answer.TheVariants.{Zero, Missed}
use Rattle.cycle_history.specs.declared.Report.{Report}
use Rattle.cycle_history.specs.Requests.{caching_procs, last_cycle, region_of}
use Rattle.cycle_history.specs.Objects.{Object}
use Rattle.cycle_history.specs.Rules.{NamesMiss}
use Rattle.cycle_history.specs.Sound.{past_in}
use Rattle.report_check.specs.Lines.{answer_at, journal_at, end_of}

-- The answer with number i is right where the trace has an object i, and the answer is `zero` exactly where its size is 0.
pub record IsRightAnswer (t : Trace) (i : ℕ) (answer : Answer) : Type 0 where
  pub event : Event
  pub asked : slice_get (events_of t) i ≡ Some event
  pub zero : (answer ≡ Zero) ↔ (event.size ≡ 0)

-- Answer i stands on this line, and isn't right.
pub record IsWrongAnswer (t : Trace) (report : Report) (line i : ℕ) : Type 0 where
  pub answer : Answer
  pub printed : slice_get report.answers i ≡ Some answer
  pub wrong : ¬ IsRightAnswer t i answer
  pub stands : line ≡ answer_at i

-- Rule 1 is broken by the line of an answer that isn't right, and by `end` where an object has no answer.
abbrev pub BreaksAnswers : Trace → Report → ℕ → Type 0
BreaksAnswers t report line = ((i : ℕ) × IsWrongAnswer t report line i)
    ⊎ ((length report.answers < length (events_of t)) × (line ≡ end_of report))

-- The first n lines of the journal are ones that pages of the trace's region and goal can have, with the page caches of its
-- processors, by the trace's last cycle.
pub record IsJournalTo (t : Trace) (report : Report) (n : ℕ) : Type 0 where
  pub legal : LegalFor (caching_procs t) (region_of t) t.header.goal (past_of (take n report.journal))
  pub cycles : IsBy (last_cycle t) (past_of (take n report.journal))

-- The journal line stands on this line of the report, and the journal up to it is none that the pages can have.
pub record IsWrongLine (t : Trace) (report : Report) (line : ℕ) : Type 0 where
  pub number : ℕ
  pub inside : number < length report.journal
  pub wrong : ¬ IsJournalTo t report (number + 1)
  pub stands : line ≡ journal_at report number

-- A block is out behind the journal's last line, and the line is `end`.
pub record IsOutAtEnd (report : Report) (line : ℕ) : Type 0 where
  pub out : open_blocks (past_in report) ≢ []
  pub stands : line ≡ end_of report

-- Rule 2 is broken by the line of a journal line where the journal up to it is none that the pages can have, and by `end` where a
-- block is never dropped.
abbrev pub BreaksJournal : Trace → Report → ℕ → Type 0
BreaksJournal t report line = IsWrongLine t report line ⊎ IsOutAtEnd report line

-- An earlier object names the journal line that this one names.
pub record IsNamedBefore (objects : List Object) (o : Object) : Type 0 where
  pub named : ℕ
  pub earlier : Object
  pub among : In earlier objects
  pub before : earlier.id < o.id
  pub its : earlier.answer ≡ Missed named
  pub here : o.answer ≡ Missed named

-- Rule 3 is broken by the line of a missed object that names no Miss line of its kind, or one that an earlier object names.
pub record BreaksMisses (past : List Line) (objects : List Object) (line : ℕ) : Type 0 where
  pub object : Object
  pub among : In object objects
  pub wrong : (¬ NamesMiss past object) ⊎ IsNamedBefore objects object
  pub stands : line ≡ answer_at object.id
