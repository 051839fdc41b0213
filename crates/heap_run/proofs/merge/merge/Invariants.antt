use Rattle.std.proofs.Common.{◌≡◌, ℕ, ◌++◌, [], List, length, take, vec_len, slice_index, slice_index_or}
use Rattle.sample_laws.specs.By.{answers_by, events_by}
use Rattle.heap_run.proofs.merge.merge.Given as goal

abbrev pub invariant-loop-event : goal.invariant-loop-event
invariant-loop-event g l = record {
  long : vec_len l.next ≡ length l.given;
  counts : (w : ℕ) → slice_index l.next.items w ≡ length (events_by w (take l.event-index l.events));
  more : List g.row.T.Denot;
  grown : l.merged ≡ l.initial.merged ++ more;
  size : length more ≡ l.event-index;
  each : (w : ℕ) → answers_by w (take l.event-index l.events) more ≡ take (slice_index l.next.items w) (slice_index_or l.given w []);
}
