use Rattle.span_laws.specs.Views.{span_of}
use Rattle.span_table.proofs.locks.take.Given as goal

abbrev pub ghosts-take_as : goal.ghosts-take_as
ghosts-take_as a = record { span = span_of a.body.now; heap = a._heap.now }
