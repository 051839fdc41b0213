use Rattle.span_table.proofs.sets.claim.Given as goal

abbrev pub ghosts-claim_as : goal.ghosts-claim_as
ghosts-claim_as a = record { number = a._page }
