use Rattle.std.proofs.Common.{◌+◌, ◌*◌, ◌^◌, arith}
use Rattle.page_summary.specs.SumLaws.{sums-more, sums-all}
use Rattle.page_summary.proofs.Blocks.{rebuilt}
use Rattle.page_summary.proofs.level.rebuild.Goals as goal

pub loop-index-preserved : goal.loop-index-preserved
loop-index-preserved c = λ map sums but.
    sums-more map (8 * 2 ^ c.args.log_pages) c.loop-index.index (c.args.last + 1) c.loop-index.level _ (omega arith) (omega arith) (c.loop-index.invariant map sums but)
    (rebuilt map (2 ^ c.args.log_pages) c.loop-index.index c.args.below.now _ (omega arith) sums c.merge.ensures.sum)

pub returns : goal.returns
returns c = record { sums = λ map sums but. sums-all map _ c.loop-index.index (c.args.last + 1) _ (omega arith) (c.loop-index.invariant map sums but) }
