use Rattle.std.proofs.Common.{arith, ◌∙◌, sym}
use Rattle.span_table.proofs.SlotSteps.{fetch_allowed}
use Rattle.span_table.proofs.sets.fetch_as.Goals as goal

pub load-requires : goal.load-requires
load-requires g c = let t = c.shared.invariant in let words = t.words in let slots = t.slots in let key = t.key_is in let m = c.args.seat.now in
    let same = c.requires.table ∙ sym c.shared.view_is in
    (same, omega arith, fetch_allowed c.shared.inside.table.shared.key.pages c.shared.inside.table.shared.table_id.slots m.id m.me g.J.Numbered.number c.requires.out.0 c.requires.out.1 c.requires.lent)
