-- How many objects of a cycle count as samples of a bucket.
use Rattle.std.specs.Prelude.{◌≡◌, ℕ, ◌+◌, ◌<◌, Bool, false, ◌&&◌, ◌==◌, List, [], ◌∷◌, length, take, slice_index_or, Option, None, Some}
use Rattle.std.specs.List.{flat_map}
use Rattle.page_alloc.specs.Lists.{one_if}
use Rattle.trace_reader.specs.declared.trace.Trace.{Trace}
use Rattle.trace_reader.specs.declared.trace.Cycle.{Cycle}
use Rattle.trace_reader.specs.declared.trace.Event.{Event}
use Rattle.cycle_history.specs.Objects.{Object}
use Rattle.run_laws.specs.Profile.{sum_below}
use Rattle.cycle_history.specs.Profile.{Samples}

-- A sampled object counts one for the bucket whose number it has.
abbrev pub one_count : Bool → ℕ → ℕ → ℕ
one_count sampled number bucket = one_if (sampled && number == bucket)

-- How many of the objects are sampled and have the bucket, by a flag and a number for each.
abbrev pub sampled_counts : List Bool → List ℕ → ℕ → ℕ
sampled_counts [] numbers bucket = 0
sampled_counts (sampled ∷ more) [] bucket = 0
sampled_counts (sampled ∷ more) (number ∷ numbers) bucket = one_count sampled number bucket + sampled_counts more numbers bucket

-- The same of the objects of the first n processors.
abbrev pub all_counts : ℕ → List (List Bool) → List (List ℕ) → ℕ → ℕ
all_counts n sampled numbers bucket = sum_below n (λ w. sampled_counts (slice_index_or sampled w []) (slice_index_or numbers w []) bucket)

-- The samples know of each object its flag and the stack of its event; all lists have the newest first.
abbrev pub Knows : Samples → List Event → List Bool → List Object → Type 0
Knows s events flags [] = Unit {0}
Knows s [] flags (o ∷ objects) = ⊥
Knows s (e ∷ events) [] (o ∷ objects) = ⊥
Knows s (e ∷ events) (f ∷ flags) (o ∷ objects) = (s.sampled o.id ≡ f) × (s.stack o.id ≡ e.stack) × Knows s events flags objects

-- What is told of a bucket's number, and 0 of a bucket without one.
abbrev pub of_number : (ℕ → ℕ) → Option ℕ → ℕ
of_number f None = 0
of_number f (Some n) = f n

-- These objects are sampled, by their numbers, of which the first have flags.
abbrev pub Flags : List Bool → (ℕ → Bool) → Type 0
Flags sampled which = (i : ℕ) → i < length sampled → which i ≡ slice_index_or sampled i false

-- The events of the first m cycles.
abbrev pub events_before : Trace → ℕ → List Event
events_before t m = flat_map (λ (c : Cycle). c.events) (take m t.cycles)
