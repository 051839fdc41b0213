use Rattle.std.proofs.Common.{◌≡◌, ◌<◌, ℕ, length, get_or}
use Rattle.sweep_lists.proofs.entries.put_seconds.Given as goal

abbrev pub invariant-loop-k : goal.invariant-loop-k
invariant-loop-k l = record {
  len : length l.places ≡ length l.pairs;
  put : (i : ℕ) → i < l.k → get_or l.places i 0 ≡ (get_or l.pairs i (0, 0)).1;
}
