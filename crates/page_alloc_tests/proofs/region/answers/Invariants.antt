use Rattle.std.proofs.Common.{[], ◌≡◌, ◌*◌}
use Rattle.page_alloc.specs.Blocks.{open_blocks}
use Rattle.page_alloc.specs.Journal.{IsBy}
use Rattle.page_alloc_tests.proofs.region.answers.Given as goal

abbrev pub invariant-loop-step : goal.invariant-loop-step
invariant-loop-step g l = IsBy 0 l.pages.past × (open_blocks l.pages.past ≡ []) × (l.pages.region ≡ 512 * l.chunks)
