use Rattle.std.proofs.Common.{◌∙◌, ap}
use Rattle.page_alloc.specs.Blocks.{open_blocks}
use Rattle.scavenger.proofs.Outs.{none-out}
use Rattle.scavenger.proofs.tests.freed_pages_are_released_to_the_goal.Goals as goal

pub scavenge-requires-clause-blocks : goal.scavenge-requires-clause-blocks
scavenge-requires-clause-blocks g c = none-out c.reserve_line.new.self.past 0 (ap open_blocks c.in_ok-reserve_line.ensures.same.past ∙ c.loop-run.invariant.1)
