use Rattle.std.specs.Prelude.{◌≡◌}
use Rattle.span_table.specs.Turning.{goes_on, has_entries}
use Rattle.span_table.proofs.mark_end.empty_entries.Given as goal

abbrev pub invariant-loop-entry : goal.invariant-loop-entry
invariant-loop-entry l = (l.seat.table_id ≡ l.fn.seat.table_id) × (l.seat.me ≡ (goes_on (has_entries l.entry) l.fn.seat.me.0, l.fn.seat.me.1))
