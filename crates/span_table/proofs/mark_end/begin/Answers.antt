use Rattle.std.proofs.Common.{arith, ◌∙◌, sym}
use Rattle.span_table.proofs.Turnings.{begin_allowed}
use Rattle.span_table.proofs.mark_end.begin.Goals as goal

pub load-requires : goal.load-requires
load-requires c = let t = c.shared.invariant in let words = t.words in let s = c.shared.inside.table.shared in let m = c.args.seat.now in let r = c.requires in
    (r.table ∙ sym c.shared.view_is, omega arith, begin_allowed s.key.pages s.table_id.slots m.id m.me r.alone r.out)
