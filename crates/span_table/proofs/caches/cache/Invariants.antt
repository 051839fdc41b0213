use Rattle.span_table.proofs.caches.cache.Given as goal

abbrev pub ghosts-cache_as : goal.ghosts-cache_as
ghosts-cache_as a = record { number = a.page }
