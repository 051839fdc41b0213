use Rattle.profile_readers_tests.proofs.tests.a_watcher_shows_what_it_learnt.Given as goal

-- the board that was just opened
abbrev pub ghosts-learnt_after_the_close : goal.ghosts-learnt_after_the_close
ghosts-learnt_after_the_close g a = record { book = a.opened; buckets = 3 }
