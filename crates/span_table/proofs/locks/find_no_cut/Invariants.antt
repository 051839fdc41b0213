use Rattle.span_table.proofs.locks.find_no_cut.Given as goal

abbrev pub ghosts-find_no_cut_as : goal.ghosts-find_no_cut_as
ghosts-find_no_cut_as a = record { first = a._pages; second = a._left }
