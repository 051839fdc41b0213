-- What the answers of a trace's first objects have.
use Rattle.std.specs.Prelude.{◌≡◌, ℕ, ◌<◌, List, length, Some, ◌↔◌}
use Rattle.std.specs.List.{slice_get}
use Rattle.trace_reader.specs.declared.trace.Trace.{Trace}
use Rattle.trace_reader.specs.declared.trace.Event.{Event}
use Rattle.trace_reader.specs.Limits.{events_of}
use Rattle.cycle_history.specs.declared.Answer.{Answer}
use Rattle.cycle_history.specs.declared.Answer.TheVariants.{Zero}

-- The answers are those of the trace's first objects, as many as the bound, and zero exactly where the size is 0.
pub record AreFilled (t : Trace) (bound : ℕ) (answers : List Answer) : Type 0 where
  pub all : length answers ≡ bound
  pub zeros : (i : ℕ) (event : Event) → slice_get (events_of t) i ≡ Some event → i < bound → (slice_get answers i ≡ Some Zero) ↔ (event.size ≡ 0)
