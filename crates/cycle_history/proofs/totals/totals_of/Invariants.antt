use Rattle.cycle_history.specs.Counted.{AreListed}
use Rattle.cycle_history.proofs.totals.totals_of.Given as goal

-- the classes so far are listed
abbrev pub invariant-loop-class : goal.invariant-loop-class
invariant-loop-class l = AreListed l.counts l.class l.totals
