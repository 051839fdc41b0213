use Rattle.span_table.proofs.cells.raise_entry.Given as goal

abbrev pub ghosts-raise_entry_as : goal.ghosts-raise_entry_as
ghosts-raise_entry_as a = record { number = a._page }
