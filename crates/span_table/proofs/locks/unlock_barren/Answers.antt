use Rattle.std.proofs.Common.{arith, ◌∙◌, [], sym}
use Rattle.span_table.proofs.Pulling.{barren_allowed}
use Rattle.span_table.proofs.locks.unlock_barren.Goals as goal

pub store-requires : goal.store-requires
store-requires c = let t = c.shared.invariant in let w = t.words in let m = c.args.seat.now in
    let now = c.put_heap.ensures.view in (
      c.put_heap.ensures.table ∙ c.requires.table ∙ sym c.shared.view_is,
      omega arith,
      barren_allowed c.shared.inside.table.shared.key.pages c.shared.inside.table.shared.table_id.slots c.put_heap.new.seat.id c.put_heap.new.seat.me m.me.0 c.requires.mine.0 c.args.heap [] now c.requires.out c.requires.mine.1 c.requires.mine.2,
    )
