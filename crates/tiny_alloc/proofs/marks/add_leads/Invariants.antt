use Rattle.std.proofs.Common.{◌≤◌, ◌⊎◌}
use Rattle.tiny_alloc.specs.Marks.{AreFair, Gains, IsLeadWithin}
use Rattle.tiny_alloc.specs.Parts.{part_by}
use Rattle.tiny_alloc.proofs.marks.add_leads.Given as goal

-- the leads of the riders so far
abbrev pub invariant-loop-object : goal.invariant-loop-object
invariant-loop-object l = record {
  from : l.low ≤ l.object;
  order : (l.object ≤ l.high) ⊎ (l.object ≤ l.low);
  fair : AreFair l.kept.items;
  leads : Gains (IsLeadWithin (part_by l.parts) l.low l.object) l.initial.kept.items l.kept.items;
}
