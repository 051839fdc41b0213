-- What a trace asks for, cycle by cycle, and what its mark ends mark.
use Rattle.std.specs.Prelude.{ℕ, zero, suc, ◌+◌, ◌-◌, ◌*◌, Bool, false, ◌&&◌, ◌||◌, nat_le, if◌then◌else◌, List, [], ◌∷◌, ◌++◌, map, reverse, length, Option, Some, None}
use Rattle.trace_reader.specs.declared.trace.Trace.{Trace}
use Rattle.trace_reader.specs.declared.trace.Cycle.{Cycle}
use Rattle.trace_reader.specs.declared.trace.Event.{Event}
use Rattle.trace_reader.specs.declared.trace.MarkEnd.{MarkEnd}
use Rattle.trace_reader.specs.declared.span.Span.{Span}

-- A request is an event of the trace, with the number of mark ends before it as its cycle.
pub record Request : Type 0 where
  pub cycle : ℕ
  pub event : Event

-- The requests of these cycles, the first of which has the given number, in the trace's order.
abbrev pub requests_from : ℕ → List Cycle → List Request
requests_from cycle [] = []
requests_from cycle (c ∷ cs) = map (λ (e : Event). record { cycle = cycle; event = e }) c.events ++ requests_from (cycle + 1) cs

-- The requests of a trace, the newest first, so that a request's number is the number of those behind it.
abbrev pub requests_of : Trace → List Request
requests_of t = reverse (requests_from 0 t.cycles)

-- Some span of the list has the id in it.
abbrev pub is_within : List Span → ℕ → Bool
is_within [] id = false
is_within (s ∷ ss) id = (nat_le s.lo id && nat_le id s.hi) || is_within ss id

-- The spans that a cycle's mark end marks, where one ends the cycle.
abbrev pub spans_of : Option MarkEnd → List Span
spans_of None = []
spans_of (Some m) = m.marks

-- The spans that are marked as the cycle with this number ends, where the first has number 0.
abbrev pub spans_after : ℕ → List Cycle → List Span
spans_after c [] = []
spans_after zero (cycle ∷ cycles) = spans_of cycle.mark
spans_after (suc c) (cycle ∷ cycles) = spans_after c cycles

-- A marking says which ids each mark end marks; mark end 1 stands before cycle 1, and there is no mark end 0.
abbrev pub Marking : Type 0
Marking = ℕ → ℕ → Bool

-- The marking of a trace.
abbrev pub marked_by : Trace → Marking
marked_by t zero id = false
marked_by t (suc m) id = is_within (spans_after m t.cycles) id

-- The number of mark ends of a trace, which is its last cycle's number.
abbrev pub last_cycle : Trace → ℕ
last_cycle t = length t.cycles - 1

-- The pages of a trace's region.
abbrev pub region_of : Trace → ℕ
region_of t = 512 * t.header.chunks

-- How many of a trace's processors have page caches: all of them from version 2 on, and before that none.
abbrev pub caching_procs : Trace → ℕ
caching_procs t = if nat_le 2 t.header.version then t.header.procs else 0
