use Rattle.span_table.proofs.sets.fetch.Given as goal

abbrev pub ghosts-fetch_as : goal.ghosts-fetch_as
ghosts-fetch_as a = record { number = a._page }
