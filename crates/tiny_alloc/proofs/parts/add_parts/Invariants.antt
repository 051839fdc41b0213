use Rattle.std.proofs.Common.{◌≡◌, ◌+◌, length}
use Rattle.cycle_history.specs.Before.{objects_before}
use Rattle.tiny_alloc.proofs.Parted.{Parted}
use Rattle.tiny_alloc.proofs.parts.add_parts.Given as goal

-- the parts of the cycle's objects so far, and the blocks behind them
abbrev pub invariant-loop-event : goal.invariant-loop-event
invariant-loop-event l = record {
  blocks : length l.blocks ≡ l.trace.header.procs;
  done : length l.parts.items ≡ objects_before l.trace l.cycle + l.event-index;
  parted : Parted l.trace l.answers l.cycle l.blocks l.parts.items;
}
