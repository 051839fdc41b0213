use Rattle.span_table.proofs.cells.look_beyond.Given as goal

abbrev pub ghosts-look_beyond_as : goal.ghosts-look_beyond_as
ghosts-look_beyond_as a = record { set = a._set; index = a._index }
