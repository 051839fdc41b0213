-- By how many bytes sweeping is paced.
use Rattle.std.specs.Prelude.{ℕ, ◌-◌, ◌==◌, max, if◌then◌else◌, Option, Some, None, slice_index_or}
use Rattle.trace_reader.specs.declared.trace.MarkEnd.{MarkEnd}
use Rattle.trace_reader.specs.declared.trace.Trace.{Trace}
use Rattle.heap_run.specs.Last.{no_cycle}

-- Behind a mark end: its distance but for the bytes that are left for the marking, and at least a page.
abbrev pub pace_behind : Option MarkEnd → ℕ
pace_behind None = 8192
pace_behind (Some end) = max (end.distance - 1048576) 8192

-- In a cycle: that behind the mark end before it; in the first one a page.
abbrev pub pace : Trace → ℕ → ℕ
pace t c = if c == 0 then 8192 else pace_behind (slice_index_or t.cycles (c - 1) no_cycle).mark
