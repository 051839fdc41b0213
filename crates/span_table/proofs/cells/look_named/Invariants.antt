use Rattle.span_table.proofs.cells.look_named.Given as goal

abbrev pub ghosts-look_named_as : goal.ghosts-look_named_as
ghosts-look_named_as a = record { set = a.set; index = a.index }
