use Rattle.std.proofs.Common.{◌+◌, arith}
use Rattle.page_summary.specs.SumLaws.{sums-more, sums-all}
use Rattle.page_alloc.specs.Region.{free_in}
use Rattle.page_alloc.proofs.Sums.{chunk-entry}
use Rattle.page_alloc.proofs.levels.refresh.Goals as goal

pub loop-index-preserved : goal.loop-index-preserved
loop-index-preserved c =
    sums-more (free_in c.args.chunks.now) 512 c.loop-index.index (c.args.last + 1) c.loop-index.level c.sum_of.result (omega arith) (omega arith) c.loop-index.invariant
    (chunk-entry c.args.chunks.now c.loop-index.index _ _ _ _ (omega arith) c.sum_of.ensures)

pub returns : goal.returns
returns c = sums-all (free_in c.args.chunks.now) 512 c.loop-index.index (c.args.last + 1) c.loop-index.level (omega arith) c.loop-index.invariant
