use Rattle.span_table.proofs.shared.hand_out_seat.Given as goal

abbrev pub ghosts-hand_out_as : goal.ghosts-hand_out_as
ghosts-hand_out_as a = record { number = a._number; cache = a._cache.now }
