-- What belongs to one processor of a cycle.
use Rattle.std.specs.Prelude.{ℕ, ◌==◌, if◌then◌else◌, List, [], ◌∷◌}
use Rattle.trace_reader.specs.declared.trace.Event.{Event}

-- The events of a processor, in their order.
abbrev pub events_by : ℕ → List Event → List Event
events_by w [] = []
events_by w (e ∷ events) = if e.proc == w then e ∷ events_by w events else events_by w events

-- What came of the events of a processor, in their order: one item for each event.
abbrev pub answers_by : {X : Type 0} → ℕ → List Event → List X → List X
answers_by w [] answers = []
answers_by w (e ∷ events) [] = []
answers_by w (e ∷ events) (a ∷ answers) = if e.proc == w then a ∷ answers_by w events answers else answers_by w events answers
