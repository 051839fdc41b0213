use Rattle.std.proofs.Common.{◌≡◌, ℕ, ◌+◌, ◌<◌, ◌≤◌, ◌⊎◌, true, false, length, get_or}
use Rattle.heap_text.proofs.counts.mark_span.Given as goal

abbrev pub invariant-loop-object : goal.invariant-loop-object
invariant-loop-object l = record {
  size : length l.marked ≡ length l.initial.marked;
  inside : (i : ℕ) → l.low ≤ i → i < l.object → i < length l.initial.marked → get_or l.marked i false ≡ true;
  top : (l.object ≡ l.low) ⊎ (l.object ≤ l.high + 1);
  outside : (i : ℕ) → (i < l.low) ⊎ (l.object ≤ i) → get_or l.marked i false ≡ get_or l.initial.marked i false;
}
