use Rattle.span_table.specs.Scanned.{PassesTo}
use Rattle.span_table.proofs.shared.Shared.acquire_unmarked.Given as goal

abbrev pub invariant-loop-page : goal.invariant-loop-page
invariant-loop-page l = PassesTo l.fn.from l.page l.fn.w l.w
