use Rattle.span_table.proofs.locks.unlock_missed.Given as goal

abbrev pub ghosts-unlock_missed_as : goal.ghosts-unlock_missed_as
ghosts-unlock_missed_as a = record { line = a._line; pages = a._pages; class = a._class }
