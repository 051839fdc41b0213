use Rattle.profile_readers_tests.proofs.tests.threads_see_whole_profiles_in_order.Given as goal

-- the board that was just opened
abbrev pub ghosts-seen_in_threads : goal.ghosts-seen_in_threads
ghosts-seen_in_threads g a = record { book = a.opened; buckets = 3 }
