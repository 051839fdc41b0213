use Rattle.std.proofs.Common.{ℕ, ltb, List, sym, ◌∙◌, ap, subst, rules}
use Rattle.std.proofs.lemmas.List.Sorted.{IsNonDecreasingBy-from_default, IsPartitionPoint-from_clause, IsPartitionedBy-ltb}
use Rattle.page_alloc.specs.Lists.{count}
use Rattle.report_check.specs.Order.{AreRising}
use Rattle.report_check.proofs.Counting.{point-count}
use Rattle.report_check.proofs.sorted.Sorted.below.Goals as goal

pub returns : goal.returns
returns c =
    let same = c.as_slice.ensures.value in
    let rising : AreRising c.as_slice.result.now = subst AreRising (sym same) c.self.invariant in
    let parted = IsPartitionedBy-ltb (λ x. x) _ c.args.bound (IsNonDecreasingBy-from_default (λ x. x) _ 0 rising) in
    let point = IsPartitionPoint-from_clause (λ x. ltb x c.args.bound) _ _ c.partition_point.ensures.partitioned parted (λ a r q k. search rules) in
    point-count (λ x. ltb x c.args.bound) _ _ c.partition_point.ensures.bound point
    ∙ ap (λ (xs : List ℕ). count (λ x. ltb x c.args.bound) xs) (same ∙ c.self.view_is)
