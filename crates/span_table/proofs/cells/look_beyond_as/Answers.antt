use Rattle.std.proofs.Common.{arith, ◌∙◌, sym, ap}
use Rattle.span_table.proofs.Checking.{look_beyond_allowed}
use Rattle.span_table.proofs.cells.look_beyond_as.Goals as goal

pub load-requires : goal.load-requires
load-requires g c = let t = c.shared.invariant in let words = t.words in let slots = t.slots in let key = t.key_is in let s = c.shared.inside.table.shared in let m = c.args.seat.now in let r = c.requires in
    let same = r.table ∙ sym c.shared.view_is in let many = ap (λ z. z.slots) same in let beyond = r.cell.1 in
    (same, omega arith, look_beyond_allowed s.key.pages s.table_id.slots m.id m.me g.J.OfCell.set g.J.OfCell.index r.cell.0 (omega arith) r.out)
