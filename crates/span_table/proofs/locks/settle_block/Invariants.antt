use Rattle.page_cache.specs.declared.block.Block.{Block}
use Rattle.span_table.specs.Seats.{no_block}
use Rattle.span_table.proofs.locks.settle_block.Given as goal

abbrev pub ghosts-settle_block_as : goal.ghosts-settle_block_as
ghosts-settle_block_as a = record { line = a._line; block = no_block; heap = a._heap.now }
