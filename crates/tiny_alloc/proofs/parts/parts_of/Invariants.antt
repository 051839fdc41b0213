use Rattle.std.proofs.Common.{◌≡◌, length}
use Rattle.cycle_history.specs.Before.{objects_before}
use Rattle.tiny_alloc.specs.Parts.{AreParts}
use Rattle.tiny_alloc.proofs.parts.parts_of.Given as goal

-- the parts of the cycles so far
abbrev pub invariant-loop-cycle : goal.invariant-loop-cycle
invariant-loop-cycle l = record {
  blocks : length l.blocks.items ≡ l.trace.header.procs;
  done : length l.parts.items ≡ objects_before l.trace l.cycle;
  parts : AreParts l.trace l.answers l.parts.items;
}
