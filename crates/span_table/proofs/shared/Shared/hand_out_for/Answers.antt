use Rattle.std.proofs.Common.{arith, ap, subst, sym, ◌<◌}
use Rattle.span_laws.specs.Views.{Seen}
use Rattle.span_table.proofs.Resting.{rests_sent_for}
use Rattle.span_table.proofs.shared.Shared.hand_out_for.Goals as goal

pub invariant_of-result : goal.invariant_of-result
invariant_of-result c = let i = c.driver.inside in
    rests_sent_for i.number i.generation i.goal i.spares i.cache i.line i.seat.table_id _ i.seat.me _ c.driver.invariant c.hand_out_seat-seat.ensures.tables.1 c.args.proc c.requires.number
    (subst (λ (k : Seen). c.args.proc < k.view.procs) (sym c.driver.view_is) c.requires.procs) c.new.result c.new.ensures c.hand_out_seat-seat.ensures.worker
