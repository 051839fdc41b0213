use Rattle.span_laws.specs.Views.{span_of}
use Rattle.span_table.proofs.caches.uncache_stale.Given as goal

abbrev pub ghosts-uncache_stale_as : goal.ghosts-uncache_stale_as
ghosts-uncache_stale_as a = record { span = span_of a.body.now }
