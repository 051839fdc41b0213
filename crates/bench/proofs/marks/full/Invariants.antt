use Rattle.std.proofs.Common.{◌≡◌, ◌-◌}
use Rattle.bench.proofs.marks.full.Given as goal

abbrev pub invariant-loop-index : goal.invariant-loop-index
invariant-loop-index l = (l.body.page ≡ l.page) × (l.body.count ≡ l.size.objects)

abbrev pub decreases-loop-index : goal.decreases-loop-index
decreases-loop-index l = l.body.count - l.body.next
