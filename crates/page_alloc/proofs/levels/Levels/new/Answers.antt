use Rattle.std.proofs.Common.{◌*◌, ◌<◌, ◌^◌, arith}
use Rattle.std.proofs.lemmas.List.{get_or-replicate}
use Rattle.page_summary.specs.declared.sum.Sum.{Sum}
use Rattle.page_alloc.proofs.Sums.{empty-entries}
use Rattle.page_alloc.proofs.levels.Levels.new.Goals as goal

pub update-requires-clause-others : goal.update-requires-clause-others
update-requires-clause-others c =
    let none = c.pack-none.ensures in
    let len1 = c.in_ok-vec.ensures.len in
    let ok1 = c.in_ok-vec.field-0.ok.0 in
    let len2 = c.in_ok-vec-2.ensures.len in
    let ok2 = c.in_ok-vec-2.field-0.ok.0 in
    let len3 = c.in_ok-vec-3.ensures.len in
    let ok3 = c.in_ok-vec-3.field-0.ok.0 in
    let len4 = c.in_ok-vec-4.ensures.len in
    let ok4 = c.in_ok-vec-4.field-0.ok.0 in
    let blocks2 = c.div_ceil.ensures in
    let blocks3 = c.div_ceil-2.ensures in
    let blocks4 = c.div_ceil-3.ensures in
    record {
      cut = record { entries_1 = omega arith; entries_2 = omega arith; entries_3 = omega arith; entries_4 = omega arith };
      sums_1 = empty-entries c.args.chunks.now (2 ^ 18) _ _ c.pack-none.result none.start none.max none.end (λ k le. omega arith)
          (λ k d lt. (let fits : k < 8 = omega arith in rw (c.in_ok-vec.ensures.items_if_clones_equal (λ y e. e)) (get_or-replicate {A = Sum} 8 k c.pack-none.result d fits)));
      sums_2 = empty-entries c.args.chunks.now (2 ^ 15) _ _ c.pack-none.result none.start none.max none.end (λ k le. omega arith)
          (λ k d lt. (let fits : k < (8 * c.div_ceil.result) = omega arith in rw (c.in_ok-vec-2.ensures.items_if_clones_equal (λ y e. e)) (get_or-replicate {A = Sum} (8 * c.div_ceil.result) k c.pack-none.result d fits)));
      sums_3 = empty-entries c.args.chunks.now (2 ^ 12) _ _ c.pack-none.result none.start none.max none.end (λ k le. omega arith)
          (λ k d lt. (let fits : k < (8 * c.div_ceil-2.result) = omega arith in rw (c.in_ok-vec-3.ensures.items_if_clones_equal (λ y e. e)) (get_or-replicate {A = Sum} (8 * c.div_ceil-2.result) k c.pack-none.result d fits)));
      sums_4 = empty-entries c.args.chunks.now (2 ^ 9) _ _ c.pack-none.result none.start none.max none.end (λ k le. omega arith)
          (λ k d lt. (let fits : k < (8 * c.div_ceil-3.result) = omega arith in rw (c.in_ok-vec-4.ensures.items_if_clones_equal (λ y e. e)) (get_or-replicate {A = Sum} (8 * c.div_ceil-3.result) k c.pack-none.result d fits)));
    }
