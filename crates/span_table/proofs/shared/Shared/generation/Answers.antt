use Rattle.std.proofs.Common.{refl, arith, sym, ap, ◌∙◌}
use Rattle.span_laws.specs.Views.{Seen}
use Rattle.span_table.proofs.SlotSteps.{read_allowed}
use Rattle.span_table.proofs.Resting.{rests_said}
use Rattle.span_laws.specs.declared.said.Said.TheVariants.{Reads}
use Rattle.span_table.proofs.shared.Shared.generation.Goals as goal

pub load-requires : goal.load-requires
load-requires c = let t = c.self.invariant in let w = t.words in
    (ap (λ (k : Seen). k.table) c.w.view_is ∙ c.requires.table ∙ sym c.self.view_is, omega arith, read_allowed c.self.inside.table.shared.key.pages c.self.inside.table.shared.table_id.slots c.w.inside.seat.id c.w.inside.seat.me c.w.invariant.out)

pub invariant_of-w : goal.invariant_of-w
invariant_of-w c = let i = c.w.inside in rests_said i.number i.generation i.goal i.spares i.cache i.line i.seat.table_id c.load.new.seat.table_id i.seat.me c.load.new.seat.me c.w.invariant c.load.ensures.0 (Reads 1 c.load.result) refl refl c.load.ensures.2.0
