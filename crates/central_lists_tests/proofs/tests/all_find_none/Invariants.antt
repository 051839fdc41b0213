use Rattle.span_set.specs.Asks.{MaySearch}
use Rattle.central_lists_tests.proofs.tests.all_find_none.Given as goal

abbrev pub invariant-loop-class : goal.invariant-loop-class
invariant-loop-class g l = MaySearch l.shop.shared.now l.shop.ring.now l.shop.marks.now l.hand
