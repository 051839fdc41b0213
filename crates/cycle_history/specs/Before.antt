-- What stands before a mark end: the objects, with their requests and answers, in a trace within the limits.
use Rattle.std.specs.Prelude.{◌≡◌, ℕ, zero, suc, ◌<◌, ◌≤◌, Bool, false, List, [], length, take, map, reverse, slice_index_or, Some}
use Rattle.std.specs.List.{AllByRecursion, flat_map, slice_get}
use Rattle.trace_reader.specs.declared.span.Span.{Span}
use Rattle.trace_reader.specs.declared.trace.Trace.{Trace}
use Rattle.trace_reader.specs.Limits.{AreCycles, EventFits, HeaderFits, events_of}
use Rattle.cycle_history.specs.declared.Answer.{Answer}
use Rattle.cycle_history.specs.declared.Answer.TheVariants.{Placed}
use Rattle.cycle_history.specs.Requests.{Request, requests_from, region_of, spans_after}
use Rattle.cycle_history.specs.Objects.{Object}
use Rattle.cycle_history.specs.Rules.{AreAnswered}
use Rattle.cycle_history.specs.Places.{LiesAt}

-- A trace is within the limits of the format, but for the one on the sum of its marks.
pub record IsLimited (t : Trace) : Type 0 where
  pub header : HeaderFits t.header
  pub events : AllByRecursion (EventFits t.header.procs) (events_of t)
  pub cycles : AreCycles 0 (λ _. ⊥) t.cycles
  pub objects : length (events_of t) ≤ 1000000
  pub mark_ends : length t.cycles ≤ 10001

-- The number of objects before mark end m, which is the number of the first object of cycle m.
abbrev pub objects_before : Trace → ℕ → ℕ
objects_before t m = length (flat_map (λ c. c.events) (take m t.cycles))

-- Each placed answer is a place of its object's size, in a span that begins at a page of the region.
abbrev pub ArePlaces : Trace → List Answer → Type 0
ArePlaces t answers = (i address : ℕ) → slice_get answers i ≡ Some (Placed address) → (page : ℕ) × (k : ℕ) × (page < region_of t) × LiesAt t answers i page k

-- None of the first n objects is sampled.
pub record AreClear (sampled : List Bool) (n : ℕ) : Type 0 where
  pub inside : n ≤ length sampled
  pub unset : (i : ℕ) → i < n → slice_index_or sampled i false ≡ false

-- The spans that mark end m marks; there is no mark end 0.
abbrev pub marks_at : Trace → ℕ → List Span
marks_at t zero = []
marks_at t (suc m) = spans_after m t.cycles

-- The requests before mark end m, the newest first.
abbrev pub requests_before : Trace → ℕ → List Request
requests_before t m = reverse (requests_from 0 (take m t.cycles))

-- The objects are those of the requests before mark end m, and have these answers.
pub record AreObjectsBefore (t : Trace) (m : ℕ) (answers : List Answer) (objects : List Object) : Type 0 where
  pub asked : AreAnswered (requests_before t m) objects
  pub printed : map (λ (o : Object). o.answer) objects ≡ reverse answers

-- Two traces have the same header, and the same cycles before mark end m.
pub record AreAlike (m : ℕ) (t u : Trace) : Type 0 where
  pub header : t.header ≡ u.header
  pub cycles : take m t.cycles ≡ take m u.cycles
