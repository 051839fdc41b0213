use Rattle.std.proofs.Common.{◌≡◌, ℕ, [], take, vec_len, slice_index_or}
use Rattle.sample_laws.specs.By.{answers_by}
use Rattle.heap_run.proofs.queues.parts_of.Given as goal

abbrev pub invariant-loop-at : goal.invariant-loop-at
invariant-loop-at g l = record {
  long : vec_len l.lists ≡ l.procs;
  each : (w : ℕ) → slice_index_or l.lists.items w [] ≡ answers_by w (take l.at l.events) (take l.at l.items);
}
