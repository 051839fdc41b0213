-- A trace of nine objects with two mark ends, and their answers.
use Rattle.std.specs.Prelude.{ℕ, true, List, [], ◌∷◌, Some, None}
use Rattle.trace_reader.specs.declared.trace.Trace.{Trace}
use Rattle.trace_reader.specs.declared.trace.Cycle.{Cycle}
use Rattle.trace_reader.specs.declared.trace.Event.{Event}
use Rattle.trace_reader.specs.declared.span.Span.{Span}
use Rattle.cycle_history.specs.declared.Answer.{Answer}
use Rattle.cycle_history.specs.declared.Answer.TheVariants.{Placed, Zero, Missed}

-- an event of a size
abbrev pub event_of_size : ℕ → Event
event_of_size size = record { proc = 0; size = size; scan = true; stack = 0 }

-- the objects from one to another
abbrev pub span : ℕ → ℕ → Span
span lo hi = record { lo = lo; hi = hi }

-- the three cycles
abbrev pub first : Cycle
first = record {
  events = event_of_size 16 ∷ event_of_size 16 ∷ event_of_size 0 ∷ event_of_size 1400 ∷ event_of_size 40000 ∷ [];
  mark = Some (record { distance = 4096; marks = span 0 0 ∷ span 2 3 ∷ [] });
}

abbrev pub second : Cycle
second = record {
  events = event_of_size 16 ∷ event_of_size 3000000 ∷ event_of_size 24 ∷ [];
  mark = Some (record { distance = 4096; marks = span 0 0 ∷ span 6 7 ∷ [] });
}

abbrev pub third : Cycle
third = record { events = event_of_size 32768 ∷ []; mark = None }

-- the trace
abbrev pub example : Trace
example = record { header = record { version = 1; chunks = 1; procs = 1; rate = 0; seed = 1; goal = 512 }; cycles = first ∷ second ∷ third ∷ [] }

-- the answers
abbrev pub answers : List Answer
answers = Placed 0xc000000000 ∷ Placed 0xc000000010 ∷ Zero ∷ Placed 0xc000008c00 ∷ Placed 0xc00000a000 ∷ Placed 0xc000000010 ∷ Missed 4 ∷ Placed 0xc000015fe0 ∷ Placed 0xc000028000 ∷ []
