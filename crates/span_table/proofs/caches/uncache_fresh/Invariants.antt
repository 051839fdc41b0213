use Rattle.span_table.proofs.caches.uncache_fresh.Given as goal

abbrev pub ghosts-uncache_as : goal.ghosts-uncache_as
ghosts-uncache_as a = record { number = a.page }
