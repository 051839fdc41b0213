use Rattle.std.proofs.Common.{◌∙◌, ap}
use Rattle.page_alloc.specs.Blocks.{open_blocks}
use Rattle.scavenger.proofs.Outs.{none-out}
use Rattle.scavenger.proofs.tests.freed.Goals as goal

pub take-requires-clause-blocks : goal.take-requires-clause-blocks
take-requires-clause-blocks c = none-out c.reserve_line.new.self.past 0 (ap open_blocks c.in_ok-reserve_line.ensures.same.past ∙ ap open_blocks c.in_ok-pages.ensures.empty)

pub give-requires-clause-blocks : goal.give-requires-clause-blocks
give-requires-clause-blocks c = none-out c.take.new.self.past 0 (ap open_blocks c.in-Ok.ensures.taken.past ∙ (ap open_blocks c.in_ok-reserve_line.ensures.same.past ∙ ap open_blocks c.in_ok-pages.ensures.empty))
