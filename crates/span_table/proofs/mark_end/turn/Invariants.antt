use Rattle.span_table.proofs.mark_end.turn.Given as goal

abbrev pub ghosts-turn_as : goal.ghosts-turn_as
ghosts-turn_as a = record { marks = a._marks.now.pairs }
