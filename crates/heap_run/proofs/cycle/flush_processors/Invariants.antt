use Rattle.std.proofs.Common.{◌≡◌, ℕ, ◌<◌, slice_index_or, vec_len}
use Rattle.heap_run.specs.Parts.{part_at}
use Rattle.heap_run.specs.Counts.{Counts, countdown_at, no_counts}
use Rattle.heap_run.specs.Turns.{IsCollecting, IsDriving, KeepsAnswers, no_cache}
use Rattle.heap_run.proofs.cycle.flush_processors.Given as goal

abbrev pub invariant-loop-p : goal.invariant-loop-p
invariant-loop-p g l = record {
  driving : IsDriving l.initial.driver.worker l.procs.items l.driver;
  long : vec_len l.procs ≡ vec_len l.initial.procs;
  collecting : IsCollecting l.driver;
  keeps : KeepsAnswers l.initial.driver.worker l.driver.worker;
  flushed : (i : ℕ) → i < l.p → (slice_index_or l.procs.items i no_cache).flushed ≡ l.initial.driver.worker.view.generation;
  countdowns : (w : ℕ) → countdown_at l.procs.items w ≡ countdown_at l.initial.procs.items w;
  counts : Counts l.shop.marks.now no_counts l.initial.driver l.driver;
  own : part_at l.driver.worker 69 ≡ part_at l.initial.driver.worker 69;
}
