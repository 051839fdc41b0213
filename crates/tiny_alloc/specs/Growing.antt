-- The base of a trace as a run goes on: the cycles that are answered, and behind them the one under way.
use Rattle.std.specs.Prelude.{◌≡◌, ℕ, ◌<◌, ◌≤◌, cond, nat_lt, slice_index_or, List, [], ◌∷◌, ◌++◌, length, map, take, Option, Some, None}
use Rattle.std.specs.List.{slice_get}
use Rattle.trace_reader.specs.declared.trace.Trace.{Trace}
use Rattle.trace_reader.specs.declared.trace.Cycle.{Cycle}
use Rattle.trace_reader.specs.declared.trace.Event.{Event}
use Rattle.trace_reader.specs.Limits.{events_of}
use Rattle.cycle_history.specs.declared.Answer.{Answer}
use Rattle.cycle_history.specs.Before.{objects_before}
use Rattle.tiny_alloc.specs.declared.growing.Growing.{Growing}
use Rattle.tiny_alloc.specs.declared.part.Part.{Part}
use Rattle.tiny_alloc.specs.declared.part.Part.TheVariants.{Other, Lead, Ride}
use Rattle.tiny_alloc.specs.Riders.{is_tiny}
use Rattle.tiny_alloc.specs.Base.{AreBased, as_version_2, based_event, based_events}
use Rattle.tiny_alloc.specs.Parts.{AreParts, part_by}

-- The part of an object as if each tiny one had a block of its own.
abbrev pub lone_part : Event → Part
lone_part e = cond (is_tiny e) Lead Other

-- The event of such an object.
abbrev pub lone_event : Event → Event
lone_event e = based_event (lone_part e) e

-- The events of such objects.
abbrev pub lone_events : List Event → List Event
lone_events events = map lone_event events

-- The part of an object that may be none of the trace.
abbrev pub lone_part_of : Option Event → Part
lone_part_of None = Other
lone_part_of (Some e) = lone_part e

-- The part of an object so far: by the list, and behind its end as if each tiny object had a block of its own.
abbrev pub part_so_far : Trace → List Part → ℕ → Part
part_so_far t parts i = cond (nat_lt i (length parts)) (part_by parts i) (lone_part_of (slice_get (events_of t) i))

-- Each rider's lead comes before it, on the same side of each mark end.
abbrev pub AreNear : Trace → (ℕ → Part) → Type 0
AreNear t part = (rider lead offset m : ℕ) → part rider ≡ Ride lead offset → (lead < rider) × (objects_before t m ≤ rider → objects_before t m ≤ lead)

-- The trace is the base of the cycles before cycle c, by these parts, and behind them cycle c is under way: its events are by their
-- parts so far, and it has no mark end yet.
pub record IsGrowing (t : Trace) (c : ℕ) (parts : List Part) (based : Trace) : Type 0 where
  pub cycle : c < length t.cycles
  pub answered : objects_before t c ≤ length parts
  pub near : AreNear t (part_by parts)
  pub header : based.header ≡ (as_version_2 t).header
  pub done : List Cycle
  pub under : Cycle
  pub split : based.cycles ≡ done ++ under ∷ []
  pub before : AreBased (part_by parts) 0 (take c t.cycles) done
  pub asked : (d : Cycle) → under.events ≡ based_events (part_so_far t parts) (objects_before t c) (slice_index_or t.cycles c d).events
  pub unmarked : under.mark ≡ None

-- Cycle c is under way, and the objects before mark end n have their parts by these answers.
pub record HasGrown (t : Trace) (answers : List Answer) (c n : ℕ) (g : Growing) : Type 0 where
  pub growing : IsGrowing t c g.parts.items g.trace
  pub parts : AreParts t answers g.parts.items
  pub number : length g.parts.items ≡ objects_before t n
