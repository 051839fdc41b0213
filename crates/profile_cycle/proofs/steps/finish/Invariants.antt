use Rattle.profile_cycle.proofs.steps.finish.Given as goal

abbrev pub ghosts-finish_as : goal.ghosts-finish_as
ghosts-finish_as a = record { what = a._what.now }
