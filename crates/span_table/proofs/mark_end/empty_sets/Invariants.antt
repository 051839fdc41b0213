use Rattle.std.specs.Prelude.{◌≡◌}
use Rattle.span_table.specs.Turning.{with_sets}
use Rattle.span_table.proofs.mark_end.empty_sets.Given as goal

abbrev pub invariant-loop-index : goal.invariant-loop-index
invariant-loop-index l = (l.seat.table_id ≡ l.fn.seat.table_id) × (l.seat.me ≡ (with_sets l.index l.fn.seat.me.0, l.fn.seat.me.1))
