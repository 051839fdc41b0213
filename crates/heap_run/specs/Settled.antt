-- What the driver knows as a cycle has ended.
use Rattle.std.specs.Prelude.{◌≡◌, ℕ, ◌<◌, Bool, false, List, length, slice_index_or, Some}
use Rattle.span_state.specs.MarkSet.{has_pair}
use Rattle.sweep_laws.specs.Reading.{is_swept_set}
use Rattle.worker_log.specs.Entries.{is_seen_empty, many}
use Rattle.page_alloc.specs.Journal.{AreAllowed}
use Rattle.cycle_history.specs.Sound.{IsScavenged}
use Rattle.run_laws.specs.CycleSoFar.{CycleSoFar, past_after}
use Rattle.span_laws.specs.TakeAnswers.{cycle_at}
use Rattle.span_laws.specs.Cycle.{EndsCycle}
use Rattle.span_laws.specs.Views.{Seen}
use Rattle.span_laws.specs.MarkEnds.{allocated_pairs}
use Rattle.proc_cache.specs.Cache.{Cache}
use Rattle.heap_run.specs.Parts.{part_at}
use Rattle.heap_run.specs.Riding.{HaveRidden}
use Rattle.trace_reader.specs.declared.trace.Event.{Event}
use Rattle.cycle_history.specs.declared.Answer.{Answer}
use Rattle.span_set.specs.declared.hand.Hand.{Hand}
use Rattle.heap_run.specs.Turns.{HaveAnswered, IsCollecting, IsDriving, no_cache}

-- Each processor has flushed in this cycle, and the driver saw each unswept set empty.
pub record HasFlushed (procs : List Cache) (d : Seen) : Type 0 where
  pub flushed : (i : ℕ) → i < length procs → (slice_index_or procs i no_cache).flushed ≡ d.view.generation
  pub empty : (k : ℕ) → k < 544 → is_swept_set d.view.generation k ≡ false → 0 < many (is_seen_empty k) (part_at d 69).log

-- The driver was told the whole journal of a cycle that has ended, and what is so of it; its page caches are those of processors that may have
-- one, and the pages are scavenged to the goal.
pub record HasSettled (d : Seen) : Type 0 where
  pub e : CycleSoFar
  pub ends : EndsCycle d.view.region d.view.goal e
  pub cycle : e.cycle ≡ cycle_at d.view.generation
  pub before : e.before ≡ d.view.before
  pub carried : e.carried ≡ has_pair d.view.carried
  pub marks : e.marks ≡ has_pair d.view.marks
  pub bits : e.bits ≡ has_pair (allocated_pairs d.number d.view)
  pub logs : (w : ℕ) → e.logs w ≡ (part_at d w).log
  pub journal : d.journal ≡ Some (past_after e)
  pub allowed : AreAllowed d.view.procs (past_after e)
  pub scavenged : IsScavenged d.view.region d.view.goal (past_after e)

-- All workers had their turns, the processors gave these answers to their events, and the cycle ended.
pub record HasWorked (riding : Bool) (queues : List (List Event)) (given : List (List Answer)) (start : Hand) (procs : List Cache) (d : Hand) : Type 0 where
  pub driving : IsDriving start.worker procs d
  pub collecting : IsCollecting d
  pub answered : HaveAnswered riding queues given d.worker
  pub riders : HaveRidden riding queues given
  pub flushed : HasFlushed procs d.worker
  pub settled : HasSettled d.worker
