use Rattle.std.proofs.Common.{◌∙◌, ap}
use Rattle.page_alloc.specs.Blocks.{open_blocks}
use Rattle.page_alloc_tests.proofs.Outs.{none-out}
use Rattle.page_alloc_tests.proofs.region.give.Goals as goal

pub give-requires-clause-blocks : goal.give-requires-clause-blocks
give-requires-clause-blocks c = none-out c.args.pages.now.past 0 c.requires.blocks

pub returns-clause-blocks : goal.returns-clause-blocks
returns-clause-blocks c = ap open_blocks c.give.ensures.given.3.past ∙ c.requires.blocks
