use Rattle.sweep_reads.specs.Waiting.{NoneIsWaiting}
use Rattle.sweep_reads.proofs.waiting.first_waiting.Given as goal

abbrev pub invariant-loop-page : goal.invariant-loop-page
invariant-loop-page l = NoneIsWaiting l.words l.generation l.marks.pairs l.from l.page
