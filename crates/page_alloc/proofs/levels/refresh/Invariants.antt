use Rattle.std.proofs.Common.{◌+◌}
use Rattle.page_summary.specs.Sums.{AreSumsBut}
use Rattle.page_alloc.specs.Region.{free_in}
use Rattle.page_alloc.proofs.levels.refresh.Given as goal

abbrev pub invariant-loop-index : goal.invariant-loop-index
invariant-loop-index l = AreSumsBut (free_in l.chunks) 512 l.level l.index (l.last + 1)
