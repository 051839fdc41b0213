use Rattle.std.proofs.lemmas.List.Sorted.{IsNonDecreasingBy-from_sort}
use Rattle.report_check.proofs.sorted.Sorted.of.Goals as goal

pub invariant_of-result : goal.invariant_of-result
invariant_of-result c = λ i j le lt. IsNonDecreasingBy-from_sort (λ x. x) _ c.sort_unstable.ensures.sorted i j 0 le lt
