use Rattle.std.proofs.Common.{arith, ◌∙◌, [], sym}
use Rattle.span_table.proofs.Scavenging.{scavenge_allowed}
use Rattle.span_table.proofs.locks.unlock_told_as.Goals as goal

pub store-requires : goal.store-requires
store-requires g c = let t = c.shared.invariant in let w = t.words in let m = c.args.seat.now in let a = c.requires.mine in
    let now = c.put_heap.ensures.view in (
      c.put_heap.ensures.table ∙ c.requires.table ∙ sym c.shared.view_is,
      omega arith,
      scavenge_allowed c.shared.inside.table.shared.key.pages c.shared.inside.table.shared.table_id.slots c.put_heap.new.seat.id c.put_heap.new.seat.me m.me.0 a.0 a.1 c.args.heap c.args._run [] now c.requires.out c.requires.alone a.2 a.3 a.4 a.5 g.J.Hearing.journal c.requires.picked,
    )
