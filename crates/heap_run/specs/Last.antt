-- What the driver's logs tell of a run's last cycle: as a cycle ends they are still those of its workers.
use Rattle.std.specs.Prelude.{◌≡◌, ℕ, ◌<◌, ◌==◌, List, [], drop, reverse, slice_index_or, None, Some}
use Rattle.std.specs.List.Sorted.{IsPermutation}
use Rattle.page_bitmap.specs.declared.line.Line.{Line}
use Rattle.page_alloc.specs.Lists.{In}
use Rattle.page_alloc.specs.Lives.{Life, open_lives}
use Rattle.span_state.specs.declared.sweep.SweepNote.{SweepNote}
use Rattle.trace_reader.specs.declared.trace.Trace.{Trace}
use Rattle.trace_reader.specs.declared.trace.Cycle.{Cycle}
use Rattle.trace_reader.specs.declared.trace.Event.{Event}
use Rattle.cycle_history.specs.declared.Answer.{Answer}
use Rattle.cycle_history.specs.Before.{objects_before}
use Rattle.cycle_history.specs.Profile.{passing}
use Rattle.cycle_history.specs.Requests.{last_cycle}
use Rattle.cycle_history.specs.Sound.{past_in}
use Rattle.sound_run.specs.Run.{count_for}
use Rattle.worker_log.specs.declared.Entry.{Entry}
use Rattle.worker_log.specs.declared.Placing.{Placing}
use Rattle.worker_log.specs.Logs.{placings}
use Rattle.run_laws.specs.PlacingFacts.{IsIn}
use Rattle.run_laws.specs.Known.{known_number}
use Rattle.span_laws.specs.Asks.{IsAtWork}
use Rattle.span_laws.specs.Views.{Seen}
use Rattle.heap_run.specs.declared.run.Ran.{Ran}
use Rattle.heap_run.specs.Parts.{part_at}
use Rattle.heap_run.specs.Served.{answers_by, events_by}
use Rattle.heap_run.specs.Swept.{AreCollected}
use Rattle.heap_run.specs.Turns.{SaysAnswers}

-- No cycle.
abbrev pub no_cycle : Cycle
no_cycle = record { events = []; mark = None }

-- The events of a cycle.
abbrev pub events_in : Trace → ℕ → List Event
events_in t c = (slice_index_or t.cycles c no_cycle).events

-- Each processor's log tells in order of the answers to its events of cycle c, which are the last answers: of a placed object its first
-- page and index, of a missed one its line. The sweeps in all logs are one for one the notes of cycle c.
pub record TellsLast (t : Trace) (c : ℕ) (answers : List Answer) (sweeps : List SweepNote) (d : Seen) : Type 0 where
  pub answered : (w : ℕ) → SaysAnswers (reverse (events_by w (events_in t c))) (reverse (answers_by w (events_in t c) (drop (objects_before t c) answers))) (part_at d w).log
  pub notes : List SweepNote
  pub swept : AreCollected c (λ w. (part_at d w).log) notes
  pub filed : IsPermutation notes (passing (λ (n : SweepNote). n.cycle == c) sweeps)

-- Each object that a log places is in a life that is open behind the journal, which has the first page and the span class that are told, and is known
-- by the number that is told; and at an index below the number of its objects.
abbrev pub ArePlacedIn : List Line → List Entry → Type 0
ArePlacedIn past log = (a : Placing) → In a (placings log) → (a.index < count_for a.class) × (life : Life) × In life (open_lives past) × IsIn a life × (a.number ≡ known_number past life.number)

-- What a run leaves is as its report says: the worker is the driver's, with no other out, and knows the report's journal as the whole journal; its logs tell
-- of the last cycle, and place objects in lives of that journal.
pub record IsLeft (t : Trace) (ran : Ran) : Type 0 where
  pub works : IsAtWork ran.shared ran.driver
  pub number : ran.driver.number ≡ 69
  pub journal : ran.driver.journal ≡ Some (past_in ran.report)
  pub last : TellsLast t (last_cycle t) ran.report.answers ran.report.sweeps ran.driver
  pub placed : (w : ℕ) → ArePlacedIn (past_in ran.report) (part_at ran.driver w).log
