use Rattle.std.proofs.Common.{◌≡◌, take}
use Rattle.tiny_alloc.specs.Base.{AreBased}
use Rattle.tiny_alloc.specs.Parts.{part_by}
use Rattle.tiny_alloc.proofs.Requested.{before}
use Rattle.tiny_alloc.proofs.base.based_cycles.Given as goal

-- the cycles so far
abbrev pub invariant-loop-cycle : goal.invariant-loop-cycle
invariant-loop-cycle l = record {
  first : l.first ≡ before l.trace.cycles l.cycle-index;
  based : AreBased (part_by l.parts) 0 (take l.cycle-index l.trace.cycles) l.cycles;
}
