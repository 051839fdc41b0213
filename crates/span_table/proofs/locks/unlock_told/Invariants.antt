use Rattle.span_laws.specs.ScavengeAnswers.{told_if}
use Rattle.span_table.proofs.locks.unlock_told.Given as goal

abbrev pub ghosts-unlock_told_as : goal.ghosts-unlock_told_as
ghosts-unlock_told_as a = record { journal = told_if a.seat.now.me.0.drives a.heap.past }
