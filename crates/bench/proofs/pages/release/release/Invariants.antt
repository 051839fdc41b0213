use Rattle.std.proofs.Common.{[], ◌≡◌}
use Rattle.page_alloc.specs.Blocks.{open_blocks}
use Rattle.page_alloc.specs.Journal.{IsBy}
use Rattle.bench.proofs.pages.release.release.Given as goal

abbrev pub invariant-loop-run : goal.invariant-loop-run
invariant-loop-run l = IsBy 0 l.pages.past × (open_blocks l.pages.past ≡ []) × (l.pages.region ≡ l.fn.pages.region)
