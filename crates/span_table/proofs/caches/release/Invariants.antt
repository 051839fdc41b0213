use Rattle.span_laws.specs.Views.{span_of}
use Rattle.span_table.proofs.caches.release.Given as goal

abbrev pub ghosts-release_as : goal.ghosts-release_as
ghosts-release_as a = record { span = span_of a.body.now }
