-- What is counted of the objects of each size class.
use Rattle.std.specs.Prelude.{◌≡◌, ℕ, ◌+◌, ◌<◌, ◌≤◌, nat_le, Bool, ◌&&◌, ◌||◌, not, List, length, map, reverse, take, slice_index_or, Some, ◌↔◌}
use Rattle.std.specs.List.{slice_get}
use Rattle.page_alloc.specs.Lists.{In, count}
use Rattle.trace_reader.specs.declared.trace.Trace.{Trace}
use Rattle.trace_reader.specs.declared.trace.Cycle.{Cycle}
use Rattle.trace_reader.specs.declared.trace.Event.{Event}
use Rattle.trace_reader.specs.Limits.{events_of}
use Rattle.cycle_history.specs.declared.Answer.{Answer}
use Rattle.cycle_history.specs.declared.Answer.TheVariants.{Zero}
use Rattle.cycle_history.specs.declared.Total.{Total}
use Rattle.cycle_history.specs.declared.totals.Asked.{Asked}
use Rattle.cycle_history.specs.declared.totals.Count.{Count}
use Rattle.cycle_history.specs.declared.totals.Counts.{Counts}
use Rattle.cycle_history.specs.declared.totals.Living.{Living}
use Rattle.cycle_history.specs.Requests.{requests_from, requests_of, is_within, marked_by, last_cycle}
use Rattle.cycle_history.specs.Objects.{Object, live}
use Rattle.cycle_history.specs.Orders.{AreRisingTotals}
use Rattle.cycle_history.specs.Before.{IsLimited, marks_at, objects_before}
use Rattle.cycle_history.specs.MarkedLoops.{IsBehind}
use Rattle.cycle_history.specs.Rules.{AreAnswered}
use Rattle.cycle_history.specs.Sweeps.{is_placed_of}

-- An answer is zero exactly where the object's size is 0.
abbrev pub AreZeros : Trace → List Answer → Type 0
AreZeros t answers = (i : ℕ) (event : Event) → slice_get (events_of t) i ≡ Some event → (slice_get answers i ≡ Some Zero) ↔ (event.size ≡ 0)

-- The objects are those of a trace's requests, and have these answers.
pub record AreObjectsOf (t : Trace) (answers : List Answer) (objects : List Object) : Type 0 where
  pub asked : AreAnswered (requests_of t) objects
  pub printed : map (λ (o : Object). o.answer) objects ≡ reverse answers

-- The objects are those of a trace's first n requests.
pub record AreFirstOf (t : Trace) (answers : List Answer) (n : ℕ) (objects : List Object) : Type 0 where
  pub asked : AreAnswered (reverse (take n (requests_from 0 t.cycles))) objects
  pub printed : map (λ (o : Object). o.answer) objects ≡ reverse (take n answers)

-- What was counted of a class; of a class that has no place nothing was.
abbrev pub of_class : Counts → ℕ → Count
of_class counts class = record {
  mallocs = slice_index_or counts.living class 0 + slice_index_or counts.dead class 0;
  frees = slice_index_or counts.dead class 0;
}

-- An object is placed in a span of the class and doesn't live in the last cycle.
abbrev pub is_freed_of : Trace → ℕ → Object → Bool
is_freed_of t class o = is_placed_of class o && not (live (marked_by t) (last_cycle t) o)

-- The counts are those of the first n objects.
pub record AreCounts (t : Trace) (answers : List Answer) (n : ℕ) (counts : Counts) : Type 0 where
  pub few : (class : ℕ) → ((of_class counts class).mallocs ≤ n) × ((of_class counts class).frees ≤ n)
  pub mallocs : (objects : List Object) (class : ℕ) → AreFirstOf t answers n objects → class < 68 → (of_class counts class).mallocs ≡ count (is_placed_of class) objects
  pub frees : (objects : List Object) (class : ℕ) → AreFirstOf t answers n objects → class < 68 → (of_class counts class).frees ≡ count (is_freed_of t class) objects

-- What is known of the objects that live in the last cycle, where those below a number were asked for.
pub record AreLiving (t : Trace) (n : ℕ) (living : Living) : Type 0 where
  pub newest : living.newest ≡ objects_before t (last_cycle t)
  pub spans : living.marked.spans.now ≡ marks_at t (last_cycle t)
  pub behind : IsBehind living.marked n

-- All objects from low up to high live in the last cycle, where they are placed, or all don't.
abbrev pub LiveAlike : Trace → Bool → ℕ → ℕ → Type 0
LiveAlike t lives low high = (i : ℕ) → low ≤ i → i < high → (nat_le (objects_before t (last_cycle t)) i || is_within (marks_at t (last_cycle t)) i) ≡ lives

-- The objects are those of a cycle of a trace within the limits, and there is an answer for each object of the trace.
pub record AreAsked (asked : Asked) : Type 0 where
  pub limited : IsLimited asked.trace.now
  pub answers : length asked.answers.now ≡ length (events_of asked.trace.now)
  pub zeros : AreZeros asked.trace.now asked.answers.now
  pub inside : asked.cycle < length asked.trace.now.cycles
  pub events : (d : Cycle) → asked.events.now ≡ (slice_index_or asked.trace.now.cycles asked.cycle d).events
  pub first : asked.first ≡ objects_before asked.trace.now asked.cycle

-- The totals are those of the classes below a bound that have objects.
pub record AreListed (counts : Counts) (bound : ℕ) (totals : List Total) : Type 0 where
  pub order : AreRisingTotals totals
  pub below : (total : Total) → In total totals → total.class < bound
  pub some : (total : Total) → In total totals → 1 ≤ total.mallocs
  pub mallocs : (total : Total) → In total totals → total.mallocs ≡ (of_class counts total.class).mallocs
  pub frees : (total : Total) → In total totals → total.frees ≡ (of_class counts total.class).frees
  pub each : (class : ℕ) → class < bound → 1 ≤ (of_class counts class).mallocs → (total : Total) × In total totals × (total.class ≡ class)
