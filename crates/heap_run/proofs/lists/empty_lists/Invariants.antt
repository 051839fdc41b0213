use Rattle.std.proofs.Common.{◌≡◌, ℕ, [], vec_len, slice_index_or}
use Rattle.heap_run.proofs.lists.empty_lists.Given as goal

abbrev pub invariant-loop-proc : goal.invariant-loop-proc
invariant-loop-proc g l = record { long : vec_len l.lists ≡ l._proc; empty : (w : ℕ) → slice_index_or l.lists.items w [] ≡ [] }
