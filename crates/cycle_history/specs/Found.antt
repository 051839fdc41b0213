-- The places of objects, as they are kept from mark end to mark end.
use Rattle.std.specs.Prelude.{◌≡◌, ◌≢◌, ℕ, List, Option, Some, None}
use Rattle.std.specs.List.{slice_get}
use Rattle.trace_reader.specs.declared.trace.Trace.{Trace}
use Rattle.cycle_history.specs.declared.Answer.{Answer}
use Rattle.cycle_history.specs.declared.Answer.TheVariants.{Placed}
use Rattle.cycle_history.specs.declared.places.Place.{Place}
use Rattle.cycle_history.specs.Places.{IsPlace, LiesAt}

-- What is found of an object of the size with the answer: its place, or none where it isn't placed.
abbrev pub IsPlaceOf : ℕ → Answer → Option Place → Type 0
IsPlaceOf size answer None = (address : ℕ) → answer ≢ Placed address
IsPlaceOf size answer (Some place) = (address : ℕ) × (answer ≡ Placed address) × IsPlace size address place.page place.index

-- What is found of object i of the trace: where it lies, or none where it lies nowhere.
abbrev pub IsFound : Trace → List Answer → ℕ → Option Place → Type 0
IsFound t answers i None = (page k : ℕ) → ¬ LiesAt t answers i page k
IsFound t answers i (Some place) = LiesAt t answers i place.page place.index

-- The places are those of the first objects, one entry for each.
abbrev pub AreFound : Trace → List Answer → List (Option Place) → Type 0
AreFound t answers places = (i : ℕ) (found : Option Place) → slice_get places i ≡ Some found → IsFound t answers i found
