use Rattle.span_laws.specs.Views.{span_of}
use Rattle.span_table.proofs.locks.cut_off.Given as goal

abbrev pub ghosts-cut_off_as : goal.ghosts-cut_off_as
ghosts-cut_off_as a = record { span = span_of a.body.now; left = a._left }
