use Rattle.span_table.specs.Scanned.{SeesTo}
use Rattle.span_table.proofs.shared.Shared.next_unswept.Given as goal

abbrev pub invariant-loop-index : goal.invariant-loop-index
invariant-loop-index l = SeesTo l.fn.from l.index l.fn.w l.w
