use Rattle.span_table.proofs.cells.look_spine.Given as goal

abbrev pub ghosts-look_spine_as : goal.ghosts-look_spine_as
ghosts-look_spine_as a = record { set = a.set; index = a.index }
