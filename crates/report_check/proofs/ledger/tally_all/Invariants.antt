use Rattle.std.proofs.Common.{take}
use Rattle.report_check.specs.Tallies.{AreTallied}
use Rattle.report_check.proofs.ledger.tally_all.Given as goal

-- the objects so far are counted
abbrev pub invariant-loop-object : goal.invariant-loop-object
invariant-loop-object l = AreTallied l.cycle (take l.object-index l.alive) l.tallies
