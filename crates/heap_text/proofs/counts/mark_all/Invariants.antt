use Rattle.std.proofs.Common.{◌≡◌, ℕ, ◌<◌, false, length, get_or, take}
use Rattle.cycle_history.specs.Requests.{is_within}
use Rattle.heap_text.proofs.counts.mark_all.Given as goal

abbrev pub invariant-loop-span : goal.invariant-loop-span
invariant-loop-span l = record {
  size : length l.marked ≡ length l.initial.marked;
  marked : (i : ℕ) → i < length l.initial.marked → get_or l.marked i false ≡ is_within (take l.span-index l.spans) i;
}
