use Rattle.profile_readers_tests.proofs.tests.each_publish_is_seen.Given as goal

-- the board that was just opened
abbrev pub ghosts-saw_by_turns : goal.ghosts-saw_by_turns
ghosts-saw_by_turns g a = record { book = a.opened; buckets = 3 }
