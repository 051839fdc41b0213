use Rattle.profile_readers_tests.proofs.tests.a_viewer_keeps_each_newer_sight.Given as goal

-- the board that was just opened
abbrev pub ghosts-kept_newer_sights : goal.ghosts-kept_newer_sights
ghosts-kept_newer_sights g a = record { book = a.opened; buckets = 3 }
