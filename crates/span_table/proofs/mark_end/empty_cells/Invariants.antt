use Rattle.std.specs.Prelude.{◌≡◌}
use Rattle.span_table.specs.Turning.{goes_on, has_cells}
use Rattle.span_table.proofs.mark_end.empty_cells.Given as goal

abbrev pub invariant-loop-index : goal.invariant-loop-index
invariant-loop-index l = (l.seat.table_id ≡ l.fn.seat.table_id) × (l.seat.me ≡ (goes_on (has_cells l.index) l.fn.seat.me.0, l.fn.seat.me.1))
