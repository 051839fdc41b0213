use Rattle.std.specs.Prelude.{Some}
use Rattle.span_table.proofs.locks.unlock_settled.Given as goal

abbrev pub ghosts-unlock_settled_as : goal.ghosts-unlock_settled_as
ghosts-unlock_settled_as a = record { journal = Some a.heap.past }
