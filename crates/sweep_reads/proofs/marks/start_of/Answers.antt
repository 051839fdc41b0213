use Rattle.std.proofs.Common.{ℕ, ltb, arith, rules, of_calls}
use Rattle.std.proofs.lemmas.Bool.{ltb-true, ltb-false}
use Rattle.std.proofs.lemmas.List.Sorted.{IsPartitionPoint-from_clause, IsPartitionedBy-ltb}
use Rattle.sweep_reads.proofs.Rising.{pages_rise}
use Rattle.sweep_reads.proofs.marks.start_of.Goals as goal

pub returns-else-is_before : goal.returns-else-is_before
returns-else-is_before c =
    let point = IsPartitionPoint-from_clause (λ (m : ℕ × ℕ). ltb m.0 c.args.page) c.args.marks.now c.partition_point.result c.partition_point.ensures.partitioned
    (IsPartitionedBy-ltb (λ (m : ℕ × ℕ). m.0) c.args.marks.now c.args.page (pages_rise c.args.marks.now c.requires)) (λ a r f k. search (rules, of_calls)) in record {
      bound = c.partition_point.ensures.bound;
      before = λ k d low. ltb-true _ c.args.page (point.0 k d (omega arith) low);
      behind = λ k d from low. ltb-false _ c.args.page (point.1 k d from low);
    }
