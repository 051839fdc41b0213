-- What a mark end asks of the objects before it: whose places are marked, and which sampled objects died.
use Rattle.std.specs.Prelude.{◌≡◌, ℕ, ◌-◌, ◌<◌, ◌≤◌, Bool, true, false, List, [], ◌∷◌, map, reverse, slice_index, Some, ◌⊎◌, ◌↔◌}
use Rattle.std.specs.List.{slice_get}
use Rattle.page_alloc.specs.Lists.{In}
use Rattle.span_state.specs.MarkSet.{MarkSet, is_marked, dead_of}
use Rattle.trace_reader.specs.declared.trace.Trace.{Trace}
use Rattle.cycle_history.specs.declared.Answer.{Answer}
use Rattle.cycle_history.specs.Requests.{marked_by}
use Rattle.cycle_history.specs.Places.{LiesAt}
use Rattle.cycle_history.specs.Before.{objects_before}

-- Object i lived in the cycle before mark end m: it is of that cycle, or marked by the mark end before. Asked of the
-- placed objects before mark end m.
abbrev pub LivedBefore : Trace → ℕ → ℕ → Type 0
LivedBefore t m i = (objects_before t (m - 1) ≤ i) ⊎ (marked_by t (m - 1) i ≡ true)

-- Object i lies at the index of a span that begins at the page, and mark end m marks it.
pub record IsMarkedAt (t : Trace) (m : ℕ) (answers : List Answer) (page k i : ℕ) : Type 0 where
  pub marked : marked_by t m i ≡ true
  pub lies : LiesAt t answers i page k

-- The marks name the places of just the objects that mark end m marks, by these answers.
abbrev pub ArePlacesOf : Trace → ℕ → List Answer → MarkSet → Type 0
ArePlacesOf t m answers marks = (page k : ℕ) → (is_marked marks page k ≡ true) ↔ ((i : ℕ) × IsMarkedAt t m answers page k i)

-- No two objects that lived in the cycle before mark end m lie at one place.
abbrev pub LieApart : Trace → ℕ → List Answer → Type 0
LieApart t m answers = (i j page k : ℕ) → LivedBefore t m i → LivedBefore t m j → LiesAt t answers i page k → LiesAt t answers j page k → i ≡ j

-- Object i is sampled, lies in a span that begins at the page, lived in the cycle before mark end m and isn't marked by it.
pub record HasDied (t : Trace) (m : ℕ) (answers : List Answer) (sampled : List Bool) (page i : ℕ) : Type 0 where
  pub is_sampled : slice_get sampled i ≡ Some true
  pub lived : LivedBefore t m i
  pub unmarked : marked_by t m i ≡ false
  pub index : ℕ
  pub lies : LiesAt t answers i page index

-- Each number is above all behind it.
abbrev pub AreFalling : List ℕ → Type 0
AreFalling [] = Unit {0}
AreFalling (i ∷ ids) = ((j : ℕ) → In j ids → j < i) × AreFalling ids

-- The list has the buckets of the objects that the test names, each once and in the order of their numbers.
pub record AreBuckets (named : ℕ → Type 0) (buckets list : List ℕ) : Type 0 where
  pub ids : List ℕ
  pub falling : AreFalling ids
  pub each : (i : ℕ) → In i ids ↔ named i
  pub is : list ≡ reverse (map (λ i. slice_index buckets i) ids)

-- The marks of mark end m, by the answers of the objects before it: the places of those that it marks, and for each page
-- the buckets of the sampled objects that died there.
pub record AreMarksOf (t : Trace) (m : ℕ) (answers : List Answer) (sampled : List Bool) (buckets : List ℕ) (marks : MarkSet) : Type 0 where
  pub places : ArePlacesOf t m answers marks
  pub dead : (page : ℕ) → AreBuckets (λ i. HasDied t m answers sampled page i) buckets (dead_of marks page)

-- The same of the objects below two bounds: one for the places, and one for the dead.
pub record AreMarksBelow (t : Trace) (m : ℕ) (answers : List Answer) (sampled : List Bool) (buckets : List ℕ) (bound late : ℕ) (marks : MarkSet) : Type 0 where
  pub places : (page k : ℕ) → (is_marked marks page k ≡ true) ↔ ((i : ℕ) × (i < bound) × IsMarkedAt t m answers page k i)
  pub dead : (page : ℕ) → AreBuckets (λ i. (i < late) × HasDied t m answers sampled page i) buckets (dead_of marks page)
