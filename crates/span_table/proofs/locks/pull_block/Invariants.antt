use Rattle.span_table.proofs.locks.pull_block.Given as goal

abbrev pub ghosts-pull_block_as : goal.ghosts-pull_block_as
ghosts-pull_block_as a = record { line = a._line; block = a._block; heap = a._heap.now }
