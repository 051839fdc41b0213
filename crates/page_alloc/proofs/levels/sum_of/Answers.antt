use Rattle.std.proofs.Common.{arith}
use Rattle.page_summary.specs.SumLaws.{sum-fits}
use Rattle.page_alloc.proofs.Sums.{chunk-sum, fits-more}
use Rattle.page_alloc.proofs.levels.sum_of.Goals as goal

pub pack-requires : goal.pack-requires
pack-requires c = fits-more (omega arith) (sum-fits (chunk-sum c.sums-start.ensures.start c.sums-start.ensures.max c.sums-start.ensures.end))

pub returns : goal.returns
returns c = rw (c.pack.ensures.start, c.pack.ensures.max, c.pack.ensures.end) (chunk-sum c.sums-start.ensures.start c.sums-start.ensures.max c.sums-start.ensures.end)
