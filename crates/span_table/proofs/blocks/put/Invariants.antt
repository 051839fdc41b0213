use Rattle.std.specs.Prelude.{◌/◌}
use Rattle.span_table.proofs.blocks.put.Given as goal

abbrev pub ghosts-put_as : goal.ghosts-put_as
ghosts-put_as a = record { set = a.set; index = a.index / 512 }
