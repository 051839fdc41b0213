use Rattle.std.proofs.Common.{arith, ◌∙◌, sym}
use Rattle.span_table.proofs.TurnedOver.{turn_allowed}
use Rattle.span_table.proofs.mark_end.turn_as.Goals as goal

pub store-requires : goal.store-requires
store-requires g c = let t = c.shared.invariant in let words = t.words in let s = c.shared.inside.table.shared in let m = c.args.seat.now in let r = c.requires in
    (r.table ∙ sym c.shared.view_is, omega arith, turn_allowed s.key.pages s.table_id.slots m.id m.me c.args.generation m.table_id g.J.OfMarks.marks r.turning.0 r.turning.1 r.generation r.rising r.may r.sets r.counters r.undrawn)

pub returns-clause-early : goal.returns-clause-early
returns-clause-early g c = let e = c.store.ensures.2.1 in let r = c.requires.generation in omega arith
