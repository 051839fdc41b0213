use Rattle.span_table.proofs.sets.raise.Given as goal

abbrev pub ghosts-raise_as : goal.ghosts-raise_as
ghosts-raise_as a = record { number = a._page }
