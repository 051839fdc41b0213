use Rattle.std.proofs.Common.{◌≡◌}
use Rattle.heap_text.specs.Counting.{ranked_to}
use Rattle.heap_text.proofs.Ordering.{line_by}
use Rattle.heap_text.proofs.order.ranked_of.Given as goal

abbrev pub invariant-loop-number : goal.invariant-loop-number
invariant-loop-number l = l.ranked.items ≡ ranked_to (line_by l.buckets l.counts) l.number
