use Rattle.std.proofs.Common.{[], ◌≡◌}
use Rattle.page_alloc.specs.Blocks.{open_blocks}
use Rattle.page_alloc.specs.Journal.{IsBy}
use Rattle.scavenger.proofs.tests.freed_pages_are_released_to_the_goal.Given as goal

abbrev pub invariant-loop-run : goal.invariant-loop-run
invariant-loop-run g l = IsBy 0 l.pages.past × (open_blocks l.pages.past ≡ [])
