use Rattle.profile_cycle.proofs.steps.enter.Given as goal

abbrev pub ghosts-enter_as : goal.ghosts-enter_as
ghosts-enter_as a = record { what = a._what.now }
