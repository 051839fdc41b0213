-- The trace that a seed and a number of objects make.
use Rattle.std.specs.Prelude.{ℕ, zero, suc, ◌+◌, ◌-◌, ◌*◌, ◌/◌, ◌%◌, ◌==◌, List, [], ◌∷◌, ◌++◌, map, Some, None, if◌then◌else◌}
use Rattle.std.specs.List.{range_with_len}
use Rattle.rand_pcg.specs.Lcg.{Lcg, started, increment_of}
use Rattle.rand_pcg.specs.Pcg.{multiplier_64, pcg32}
use Rattle.trace_reader.specs.declared.trace.Trace.{Trace}
use Rattle.trace_reader.specs.declared.trace.Cycle.{Cycle}
use Rattle.trace_reader.specs.declared.trace.Event.{Event}
use Rattle.trace_reader.specs.declared.span.Span.{Span}

-- The generator behind the two words of one object.
abbrev pub next_object : Lcg → Lcg
next_object g = (pcg32 (pcg32 g).1).1

-- The generator behind the words of so many objects.
unfoldable pub generator_at : Lcg → ℕ → Lcg
generator_at g zero = g
generator_at g (suc objects) = next_object (generator_at g objects)

-- Each 64th object is large, of 32769 to 131072 bytes; the others have 1 to 1024.
abbrev pub size_by : ℕ → ℕ → ℕ
size_by number word = if number % 64 == 63 then 32769 + word % 98304 else 1 + word % 1024

-- The event of the object with this number, by the next two words.
unfoldable pub event_by : ℕ → Lcg → Event
event_by number g = let word = (pcg32 g).0 in
    record { proc = word % 8; size = size_by number (pcg32 (pcg32 g).1).0; scan = word / 8 % 2 == 0; stack = word / 16 % 32 }

-- The events of so many objects, from one on.
unfoldable pub events_from : Lcg → ℕ → ℕ → List Event
events_from g first count = map (λ number. event_by number (generator_at g number)) (range_with_len first count)

-- The first four of so many groups of eight objects, from one group on.
unfoldable pub groups_from : ℕ → ℕ → List Span
groups_from first count = map (λ k. record { lo = 8 * k; hi = 8 * k + 3 }) (range_with_len first count)

-- The mark end behind so many objects marks the first thousand, and of the last 8,000 the first four of each eight.
abbrev pub marks_at : ℕ → List Span
marks_at objects = record { lo = 0; hi = 999 } ∷ groups_from ((objects - 8000) / 8) 1000

-- The cycle with this number, of 10,000 objects, and its mark end.
abbrev pub made_cycle : Lcg → ℕ → Cycle
made_cycle g number = record { events = events_from g (10000 * number) 10000; mark = Some (record { distance = 4194304; marks = marks_at (10000 * number + 10000) }) }

-- The objects behind the last mark end.
abbrev pub last_cycle : Lcg → ℕ → Cycle
last_cycle g objects = let first = objects / 10000 * 10000 in record { events = events_from g first (objects - first); mark = None }

-- The words of a seed, from stream 64.
unfoldable pub words_of : ℕ → Lcg
words_of seed = started 64 multiplier_64 seed (increment_of 64 64)

-- The trace of a seed and a number of objects.
abbrev pub made_trace : ℕ → ℕ → Trace
made_trace seed objects = record {
  header = record { version = 1; chunks = 128; procs = 8; rate = 524288; seed = seed; goal = 65536 };
  cycles = map (made_cycle (words_of seed)) (range_with_len 0 (objects / 10000)) ++ last_cycle (words_of seed) objects ∷ [];
}
