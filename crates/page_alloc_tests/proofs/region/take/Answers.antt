use Rattle.std.proofs.Common.{◌∙◌, ap}
use Rattle.page_alloc.specs.Blocks.{open_blocks}
use Rattle.page_alloc_tests.proofs.Outs.{none-out}
use Rattle.page_alloc_tests.proofs.region.take.Goals as goal

pub take-requires-clause-blocks : goal.take-requires-clause-blocks
take-requires-clause-blocks c = none-out c.reserve_line.new.self.past 0 (ap open_blocks c.in_ok-reserve_line.ensures.same.past ∙ c.requires.blocks)
