-- The base of a trace with its answers: each block of tiny objects is one object, the lead's, and its riders are nothing.
use Rattle.std.specs.Prelude.{◌≡◌, ℕ, zero, suc, ◌+◌, ◌≤◌, true, List, [], ◌∷◌, ◌++◌, length, Option, Some, None, ◌⊎◌, ◌↔◌}
use Rattle.trace_reader.specs.declared.span.Span.{Span}
use Rattle.trace_reader.specs.declared.trace.Trace.{Trace}
use Rattle.trace_reader.specs.declared.trace.Cycle.{Cycle}
use Rattle.trace_reader.specs.declared.trace.Event.{Event}
use Rattle.trace_reader.specs.declared.trace.MarkEnd.{MarkEnd}
use Rattle.cycle_history.specs.declared.Answer.{Answer}
use Rattle.cycle_history.specs.declared.Answer.TheVariants.{Zero}
use Rattle.cycle_history.specs.Requests.{is_within}
use Rattle.tiny_alloc.specs.declared.base.Based.{Based}
use Rattle.tiny_alloc.specs.declared.part.Part.{Part}
use Rattle.tiny_alloc.specs.declared.part.Part.TheVariants.{Other, Lead, Ride}
use Rattle.tiny_alloc.specs.declared.part.Rider.{Rider}
use Rattle.tiny_alloc.specs.Blocks.{block_size}
use Rattle.tiny_alloc.specs.Riders.{part_at}

-- The event of an object: a lead asks for its whole block, and a rider for nothing.
abbrev pub based_event : Part → Event → Event
based_event Other e = e
based_event Lead e = record e { size = block_size }
based_event (Ride lead offset) e = record e { size = 0 }

-- The events of a cycle, whose first object has the number n.
abbrev pub based_events : (ℕ → Part) → ℕ → List Event → List Event
based_events part n [] = []
based_events part n (e ∷ es) = based_event (part n) e ∷ based_events part (n + 1) es

-- The answer of an object: a rider has none of its own.
abbrev pub based_answer : Part → Answer → Answer
based_answer Other a = a
based_answer Lead a = a
based_answer (Ride lead offset) a = Zero

-- The answers of the objects from number n on.
abbrev pub based_answers : (ℕ → Part) → ℕ → List Answer → List Answer
based_answers part n [] = []
based_answers part n (a ∷ answers) = based_answer (part n) a ∷ based_answers part (n + 1) answers

-- An object is kept by these marks where they have it, or have one that rides in its block.
abbrev pub IsKept : (ℕ → Part) → List Span → ℕ → Type 0
IsKept part marks i = (is_within marks i ≡ true) ⊎ ((rider : ℕ) × (offset : ℕ) × (part rider ≡ Ride i offset) × (is_within marks rider ≡ true))

-- Spans in the one spelling of what they have: each begins two or more above the end of the one before.
abbrev pub AreSpaced : ℕ → List Span → Type 0
AreSpaced from [] = Unit {0}
AreSpaced from (s ∷ ss) = (from ≤ s.lo) × (s.lo ≤ s.hi) × (s.hi ≤ 999999) × AreSpaced (s.hi + 2) ss

-- The marks of the base are the objects that these marks keep, in their one spelling.
pub record AreBasedMarks (part : ℕ → Part) (marks based : List Span) : Type 0 where
  pub spaced : AreSpaced 0 based
  pub each : (i : ℕ) → (is_within based i ≡ true) ↔ IsKept part marks i

-- A mark end of the base marks the objects that the trace's keeps.
abbrev pub IsBasedEnd : (ℕ → Part) → Option MarkEnd → Option MarkEnd → Type 0
IsBasedEnd part None None = Unit {0}
IsBasedEnd part None (Some based) = ⊥
IsBasedEnd part (Some end) None = ⊥
IsBasedEnd part (Some end) (Some based) = (based.distance ≡ end.distance) × AreBasedMarks part end.marks based.marks

-- The cycles of the base are those of the trace, one for one, from object number n on.
abbrev pub AreBased : (ℕ → Part) → ℕ → List Cycle → List Cycle → Type 0
AreBased part n [] [] = Unit {0}
AreBased part n [] (d ∷ ds) = ⊥
AreBased part n (c ∷ cs) [] = ⊥
AreBased part n (c ∷ cs) (d ∷ ds) = (d.events ≡ based_events part n c.events) × IsBasedEnd part c.mark d.mark × AreBased part (n + length c.events) cs ds

-- Object number n as a rider, if it is one.
abbrev pub rider_of : ℕ → Part → List Rider
rider_of n Other = []
rider_of n Lead = []
rider_of n (Ride lead offset) = record { object = n; lead = lead; offset = offset } ∷ []

-- The riders among the first n objects, by their numbers.
abbrev pub riders_below : (ℕ → Part) → ℕ → List Rider
riders_below part zero = []
riders_below part (suc n) = riders_below part n ++ rider_of n (part n)

-- A trace as one of version 2, whose limits are those of later versions too.
abbrev pub as_version_2 : Trace → Trace
as_version_2 t = record t { header = record t.header { version = 2 } }

-- A trace of version 2 with answers and riders is the base of a trace and its answers, by the parts of the objects.
pub record IsBaseBy (part : ℕ → Part) (t : Trace) (answers : List Answer) (based : Based) : Type 0 where
  pub header : based.trace.header ≡ (as_version_2 t).header
  pub cycles : AreBased part 0 t.cycles based.trace.cycles
  pub printed : based.answers ≡ based_answers part 0 answers
  pub riders : based.riders ≡ riders_below part (length answers)

-- The base of a trace and its answers.
abbrev pub IsBase : Trace → List Answer → Based → Type 0
IsBase t answers based = IsBaseBy (part_at t answers) t answers based
