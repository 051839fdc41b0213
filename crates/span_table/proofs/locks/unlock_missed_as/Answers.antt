use Rattle.std.proofs.Common.{arith, ◌∙◌, [], sym}
use Rattle.span_table.proofs.Locking.{miss_allowed}
use Rattle.span_table.proofs.locks.unlock_missed_as.Goals as goal

pub store-requires : goal.store-requires
store-requires g c = let t = c.shared.invariant in let w = t.words in let m = c.args.seat.now in let a = c.requires.mine in
    let now = c.put_heap.ensures.view in (
      c.put_heap.ensures.table ∙ c.requires.table ∙ sym c.shared.view_is,
      omega arith,
      miss_allowed c.shared.inside.table.shared.key.pages c.shared.inside.table.shared.table_id.slots c.put_heap.new.seat.id c.put_heap.new.seat.me m.me.0 a.0 a.1 c.args.heap g.J.Missing.line g.J.Missing.pages g.J.Missing.class [] now c.requires.out a.2 a.3 a.4 a.5,
    )
