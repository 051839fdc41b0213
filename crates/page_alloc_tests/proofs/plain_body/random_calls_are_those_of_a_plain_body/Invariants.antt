use Rattle.std.proofs.Common.{[], ◌≡◌}
use Rattle.page_alloc.specs.Blocks.{open_blocks}
use Rattle.page_alloc.specs.Journal.{IsBy}
use Rattle.page_alloc_tests.proofs.plain_body.random_calls_are_those_of_a_plain_body.Given as goal

abbrev pub invariant-loop : goal.invariant-loop
invariant-loop g l = IsBy 0 l.pages.past × (open_blocks l.pages.past ≡ []) × (l.pages.region ≡ 1536)
