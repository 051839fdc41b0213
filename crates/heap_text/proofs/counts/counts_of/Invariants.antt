use Rattle.std.proofs.Common.{◌≡◌, length}
use Rattle.heap_text.specs.Counting.{AreBehind, AreCounted}
use Rattle.heap_text.proofs.counts.counts_of.Given as goal

-- the objects so far are counted, and the samplers stand behind them
abbrev pub invariant-loop-number : goal.invariant-loop-number
invariant-loop-number l = record {
  procs : length l.samplers.items ≡ l.trace.header.procs;
  behind : AreBehind l.trace l.answers l.number l.samplers.items;
  counted : AreCounted l.trace l.answers l.number l.counts.items;
}
