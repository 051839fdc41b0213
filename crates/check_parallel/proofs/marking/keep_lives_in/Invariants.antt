use Rattle.report_check.specs.Ledgers.{IsOpenTo}
use Rattle.check_parallel.specs.Seating.{KeepsIn}
use Rattle.check_parallel.proofs.marking.keep_lives_in.Given as goal

-- the marked objects of the cycles so far have their lives
abbrev pub invariant-loop-cycle : goal.invariant-loop-cycle
invariant-loop-cycle l = record {
  opened : IsOpenTo l.trace l.report l.cycle l.opened;
  keeps : KeepsIn l.trace l.report l.items l.low l.cycle;
}
