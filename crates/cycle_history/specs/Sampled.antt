-- Which objects are sampled, and what is asked of them.
use Rattle.std.specs.Prelude.{◌≡◌, ℕ, Bool, ◌&&◌, ◌==◌, if◌then◌else◌, List, [], ◌∷◌, map, Option, Some, None}
use Rattle.std.specs.List.{slice_get}
use Rattle.trace_reader.specs.declared.trace.Trace.{Trace}
use Rattle.trace_reader.specs.declared.trace.Event.{Event}
use Rattle.trace_reader.specs.Limits.{events_of}
use Rattle.profile_cycle.specs.Sampling.{sampled}
use Rattle.cycle_history.specs.Objects.{Object, is_placed}

-- The items that pass a test, in their order.
abbrev pub passing : {X : Type 0} → (X → Bool) → List X → List X
passing test [] = []
passing test (x ∷ xs) = if test x then x ∷ passing test xs else passing test xs

-- The objects that a processor placed.
abbrev pub placed_by : ℕ → List Object → List Object
placed_by w objects = passing (λ o. o.proc == w && is_placed o.answer) objects

-- Of the objects that each processor placed these are sampled, by their numbers: those that its countdown meets, at a rate,
-- with words drawn by the trace's seed.
abbrev pub SamplesBy : ℕ → ℕ → (ℕ → Bool) → List Object → Type 0
SamplesBy rate seed which objects = (p : ℕ) → map (λ (o : Object). which o.id) (placed_by p objects) ≡ sampled rate seed p (map (λ (o : Object). o.need.slot) (placed_by p objects))

-- What is asked of objects: which are sampled, and the stack of each, by their numbers.
pub record Samples : Type 0 where
  pub sampled : ℕ → Bool
  pub stack : ℕ → ℕ

-- The stack of an event, where there is one.
abbrev pub stack_of : Option Event → ℕ
stack_of None = 0
stack_of (Some e) = e.stack

-- The samples of a trace, of whose objects these are sampled: each has the stack of its event.
abbrev pub samples_in : Trace → (ℕ → Bool) → Samples
samples_in t which = record { sampled = which; stack = λ id. stack_of (slice_get (events_of t) id) }
