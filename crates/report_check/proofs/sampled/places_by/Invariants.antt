use Rattle.report_check.proofs.Bucketing.{ArePlaced}
use Rattle.report_check.proofs.sampled.places_by.Given as goal

-- the places of the items so far
abbrev pub invariant-loop-number : goal.invariant-loop-number
invariant-loop-number l = ArePlaced l.items l.flags l.stacks l.cycles l.number l.places.items
