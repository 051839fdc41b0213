use Rattle.std.proofs.Common.{arith}
use Rattle.span_table.proofs.Resting.{rests_sent}
use Rattle.span_table.proofs.shared.Shared.hand_out.Goals as goal

pub invariant_of-result : goal.invariant_of-result
invariant_of-result c = let i = c.driver.inside in
    rests_sent i.number i.generation i.goal i.spares i.cache i.line i.seat.table_id _ i.seat.me _ c.driver.invariant c.hand_out_seat-seat.ensures.tables.1 c.args.number c.requires.number c.hand_out_seat-seat.ensures.worker
