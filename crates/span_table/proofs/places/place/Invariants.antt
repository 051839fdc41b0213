use Rattle.span_laws.specs.Views.{span_of}
use Rattle.span_table.proofs.places.place.Given as goal

abbrev pub ghosts-place_as : goal.ghosts-place_as
ghosts-place_as a = record { span = span_of a._body.now; index = a._index }
