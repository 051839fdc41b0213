use Rattle.std.proofs.Common.{◌≡◌, length}
use Rattle.heap_text.specs.Counting.{AreFirst}
use Rattle.heap_text.proofs.counts.samplers_of.Given as goal

-- the countdowns of the processors so far
abbrev pub invariant-loop-proc : goal.invariant-loop-proc
invariant-loop-proc l = record { size : length l.samplers.items ≡ l.proc; first : AreFirst l.header l.samplers.items }
