use Rattle.std.proofs.Common.{arith, ◌∙◌, List, [], sym, subst}
use Rattle.page_bitmap.specs.declared.line.Line.{Line}
use Rattle.span_table.specs.Asks.{HasEnded}
use Rattle.span_table.specs.Seats.{SeatState}
use Rattle.span_table.proofs.Adaptors.{one_some}
use Rattle.span_table.proofs.Settling.{settle_allowed}
use Rattle.span_table.proofs.locks.unlock_settled_as.Goals as goal

pub store-requires : goal.store-requires
store-requires g c = let t = c.shared.invariant in let w = t.words in let m = c.args.seat.now in let a = c.requires.mine in
    let now = c.put_heap.ensures.view in (
      c.put_heap.ensures.table ∙ c.requires.table ∙ sym c.shared.view_is,
      omega arith,
      settle_allowed c.shared.inside.table.shared.key.pages m.table_id c.shared.inside.table.shared.table_id.slots c.put_heap.new.seat.id c.put_heap.new.seat.me m.me.0 a.0 c.args.heap [] now c.requires.alone.0 c.requires.out c.requires.alone.1 c.requires.bare c.requires.may a.1 a.2 g.J.Hearing.journal c.requires.picked,
    )

pub returns-clause-ended : goal.returns-clause-ended
returns-clause-ended g c = let m = c.args.seat.now in let e = c.store.ensures.2.1 in
    let now = c.put_heap.ensures.view in
    let same = one_some c.args.heap.past e.0 (sym c.requires.picked ∙ e.1) in
    subst (λ (z : List Line × SeatState). HasEnded z.0 z.1.0) (λ i. (sym same i, now i)) e.2
