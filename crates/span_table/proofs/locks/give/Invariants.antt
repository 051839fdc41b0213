use Rattle.span_laws.specs.Views.{span_of}
use Rattle.span_table.proofs.locks.give.Given as goal

abbrev pub ghosts-give_as : goal.ghosts-give_as
ghosts-give_as a = record { span = span_of a.body.now; heap = a._heap.now }
