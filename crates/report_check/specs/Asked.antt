-- The events of a cycle with its number.
use Rattle.std.specs.Prelude.{ℕ}
use Rattle.trace_reader.specs.declared.trace.Event.{Event}
use Rattle.report_check.specs.declared.asked.Asked.{Asked}

-- The event with its cycle.
abbrev pub asked_in : ℕ → Event → Asked
asked_in cycle e = record { cycle = cycle; event = e }
