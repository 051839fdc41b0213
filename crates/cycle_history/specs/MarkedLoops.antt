-- What the search for a mark end's places is given, and how far it has come.
use Rattle.std.specs.Prelude.{◌≡◌, ℕ, ◌-◌, ◌<◌, ◌≤◌, true, List, [], length, drop, slice_index_or, ◌⊎◌, ◌↔◌}
use Rattle.span_state.specs.MarkSet.{MarkSet, is_marked, dead_of}
use Rattle.trace_reader.specs.declared.trace.Trace.{Trace}
use Rattle.trace_reader.specs.declared.span.Span.{Span}
use Rattle.trace_reader.specs.Rising.{AreSpans}
use Rattle.cycle_history.specs.declared.Answer.{Answer}
use Rattle.cycle_history.specs.declared.lookups.Walk.{Walk}
use Rattle.cycle_history.specs.declared.marks.Objects.{Objects}
use Rattle.cycle_history.specs.Requests.{is_within, last_cycle, marked_by}
use Rattle.cycle_history.specs.Found.{AreFound}
use Rattle.cycle_history.specs.Marked.{IsMarkedAt, LieApart}
use Rattle.cycle_history.specs.Before.{IsLimited, objects_before}

-- The objects are those before a mark end of a trace within the limits.
pub record AreOf (objects : Objects) : Type 0 where
  pub limited : IsLimited objects.trace.now
  pub first : 1 ≤ objects.mark
  pub last : objects.mark ≤ last_cycle objects.trace.now
  pub all_answers : length objects.answers.now ≡ objects_before objects.trace.now objects.mark
  pub all_sampled : length objects.sampled.now ≡ objects_before objects.trace.now objects.mark
  pub all_buckets : length objects.buckets.now ≡ objects_before objects.trace.now objects.mark
  pub all_places : length objects.places.now ≡ objects_before objects.trace.now objects.mark
  pub found : AreFound objects.trace.now objects.answers.now objects.places.now
  pub apart : LieApart objects.trace.now objects.mark objects.answers.now

-- The marks name the places of just the objects that the mark end before mark end m marked, but for those below the bound
-- that mark end m doesn't mark, and there are no dead.
pub record AreKept (t : Trace) (m : ℕ) (answers : List Answer) (bound : ℕ) (marks : MarkSet) : Type 0 where
  pub places : (page k : ℕ) → (is_marked marks page k ≡ true) ↔ ((i : ℕ) × ((bound ≤ i) ⊎ (marked_by t m i ≡ true)) × IsMarkedAt t (m - 1) answers page k i)
  pub dead : (page : ℕ) → dead_of marks page ≡ []

-- The spans that the walk has left behind end below the number.
pub record IsBehind (walk : Walk) (number : ℕ) : Type 0 where
  pub inside : walk.next ≤ length walk.spans.now
  pub below : (k : ℕ) (d : Span) → k < walk.next → (slice_index_or walk.spans.now k d).hi < number

-- What holds of numbers holds below the end of the first n spans; the other spans begin there or above, and all end
-- below the bound.
pub record AreWalked (holds : ℕ → Type 0) (bound : ℕ) (spans : List Span) (n : ℕ) : Type 0 where
  pub low : ℕ
  pub below : holds low
  pub inside : low ≤ bound
  pub rest : AreSpans low (drop n spans)
  pub ahead : (i : ℕ) → low ≤ i → is_within spans i ≡ is_within (drop n spans) i
