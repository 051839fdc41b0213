-- How far a run of a trace has come.
use Rattle.std.specs.Prelude.{◌≡◌, ℕ, suc, ◌+◌, ◌*◌, List, [], length, reverse, Some}
use Rattle.page_bitmap.specs.declared.line.Line.{Line}
use Rattle.page_alloc.specs.Blocks.{open_blocks}
use Rattle.page_alloc.specs.Journal.{AreAllowed}
use Rattle.span_state.specs.MarkSet.{has_pair}
use Rattle.trace_reader.specs.declared.trace.Trace.{Trace}
use Rattle.cycle_history.specs.Requests.{caching_procs, marked_by, region_of}
use Rattle.cycle_history.specs.Objects.{Object}
use Rattle.cycle_history.specs.Marked.{ArePlacesOf}
use Rattle.cycle_history.specs.Before.{AreClear, AreObjectsBefore, objects_before}
use Rattle.cycle_history.specs.Found.{AreFound}
use Rattle.run_laws.specs.CycleSoFar.{CycleSoFar}
use Rattle.run_laws.specs.Facts.{Marks}
use Rattle.run_laws.specs.Reached.{Began, Reached}
use Rattle.span_laws.specs.Asks.{IsAtWork}
use Rattle.span_laws.specs.Views.{Seen}
use Rattle.span_laws.specs.MarkEnds.{allocated_pairs}
use Rattle.heap_run.specs.Last.{ArePlacedIn, TellsLast}
use Rattle.heap_run.specs.Parts.{part_at}
use Rattle.heap_run.specs.Profiled.{HasCountedIn, IsCountingIn, IsProfiled, IsToldIn}
use Rattle.heap_run.specs.Settled.{HasFlushed}
use Rattle.heap_run.specs.Turns.{IsDriving}
use Rattle.heap_run.specs.declared.run.Run.{Run}

-- The driver is at work on the run's table, in cycle c of the trace; no note waits to be filed, and the lists and the marks that the next mark end
-- asks for are those of the last one.
pub record IsSet (t : Trace) (c : ℕ) (run : Run) : Type 0 where
  pub works : IsAtWork run.shared run.driver.worker
  pub parts : length run.driver.worker.view.parts ≡ 70
  pub region : run.driver.worker.view.region ≡ region_of t
  pub goal : run.driver.worker.view.goal ≡ t.header.goal
  pub caching : run.driver.worker.view.procs ≡ caching_procs t
  pub generation : run.driver.worker.view.generation ≡ 2 * c + 4
  pub driving : IsDriving run.driver.worker run.procs.items run.driver
  pub procs : length run.procs.items ≡ t.header.procs
  pub notes : run.driver.notes.items ≡ []
  pub kept : length run.places ≡ objects_before t c
  pub found : AreFound t run.answers run.places
  pub clear : AreClear run.sampled run.clear
  pub placed : ArePlacesOf t c run.answers run.marks

-- The marks of the view, of the journal as the cycle began, are those of the objects so far.
abbrev pub AreMarked : Trace → ℕ → List Object → Seen → Type 0
AreMarked t c objects d = (e : CycleSoFar) → e.cycle ≡ c → e.before ≡ d.view.before → e.marks ≡ has_pair d.view.marks → Marks (marked_by t) objects e

-- Cycle c of the trace begins: nothing of it is in the logs yet.
pub record HasBegun (t : Trace) (c : ℕ) (run : Run) : Type 0 where
  pub set : IsSet t c run
  pub objects : List Object
  pub asked : AreObjectsBefore t c run.answers objects
  pub began : Began (marked_by t) (region_of t) t.header.goal c run.driver.worker.view.before objects (reverse run.sweeps) (has_pair run.driver.worker.view.carried)
  pub marked : AreMarked t c objects run.driver.worker
  pub marks : run.marks.pairs ≡ run.driver.worker.view.marks
  pub blank : (w : ℕ) → (part_at run.driver.worker w).log ≡ []
  pub profiled : IsProfiled t c objects run
  pub counting : IsCountingIn t c objects run
  pub told : IsToldIn t c objects run

-- Cycle c of the trace has ended: the run is sound so far, no block is out, and the driver knows the whole journal.
pub record HasCompleted (t : Trace) (c : ℕ) (run : Run) : Type 0 where
  pub set : IsSet t c run
  pub objects : List Object
  pub past : List Line
  pub asked : AreObjectsBefore t (suc c) run.answers objects
  pub reached : Reached (marked_by t) (region_of t) t.header.goal c past objects (reverse run.sweeps) (has_pair (allocated_pairs run.driver.worker.number run.driver.worker.view))
  pub allowed : AreAllowed (caching_procs t) past
  pub settled : open_blocks past ≡ []
  pub journal : run.driver.worker.journal ≡ Some past
  pub flushed : HasFlushed run.procs.items run.driver.worker
  pub profiled : IsProfiled t (suc c) objects run
  pub counted : HasCountedIn t c objects run
  pub told : IsToldIn t c objects run
  pub last : TellsLast t c run.answers run.sweeps run.driver.worker
  pub placed : (w : ℕ) → ArePlacedIn past (part_at run.driver.worker w).log
