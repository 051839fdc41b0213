use Rattle.std.proofs.Common.{take}
use Rattle.tiny_alloc.specs.Marks.{AreFair, Gains, IsLeadOf}
use Rattle.tiny_alloc.specs.Parts.{part_by}
use Rattle.tiny_alloc.proofs.marks.based_marks.Given as goal

-- the marks and the leads of the riders that the spans so far have
abbrev pub invariant-loop-span : goal.invariant-loop-span
invariant-loop-span l = record {
  fair : AreFair l.kept.items;
  leads : Gains (IsLeadOf (part_by l.parts) (take l.span-index l.marks)) l.marks l.kept.items;
}
