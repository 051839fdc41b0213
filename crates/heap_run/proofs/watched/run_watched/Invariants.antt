use Rattle.std.proofs.Common.{length}
use Rattle.heap_run.proofs.watched.run_watched.Given as goal

-- the board that was just opened, for the buckets that the run knows
abbrev pub ghosts-run_before : goal.ghosts-run_before
ghosts-run_before g a = record { book = a.opened; buckets = length a.run.profile.known }
