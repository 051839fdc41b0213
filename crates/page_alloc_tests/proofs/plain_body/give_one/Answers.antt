use Rattle.std.proofs.Common.{◌∙◌, ap}
use Rattle.page_alloc.specs.Blocks.{open_blocks}
use Rattle.page_alloc_tests.proofs.Outs.{none-out}
use Rattle.page_alloc_tests.proofs.plain_body.give_one.Goals as goal

pub give-requires-clause-blocks : goal.give-requires-clause-blocks
give-requires-clause-blocks g c = none-out c.reserve_line.new.self.past 0 (ap open_blocks c.in_ok-reserve_line.ensures.same.past ∙ c.requires.blocks)

pub returns-then-eq-clause-blocks : goal.returns-then-eq-clause-blocks
returns-then-eq-clause-blocks g c = ap open_blocks c.give.ensures.given.3.past ∙ (ap open_blocks c.in_ok-reserve_line.ensures.same.past ∙ c.requires.blocks)
