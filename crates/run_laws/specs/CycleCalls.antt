-- How the calls of one cycle come together: the frees by the notes of its sweeps, the allocations worker by worker.
use Rattle.std.specs.Prelude.{◌≡◌, ℕ, suc, ◌+◌, ◌<◌, Bool, true, ◌&&◌, ◌==◌, not, List, [], ◌∷◌, slice_index, Some, ◌↔◌}
use Rattle.std.specs.List.{slice_get}
use Rattle.page_alloc.specs.Lists.{In, count}
use Rattle.page_alloc.specs.Lives.{Life, open_lives}
use Rattle.span_state.specs.MarkSet.{MarkSet, dead_of}
use Rattle.span_state.specs.declared.sweep.SweepNote.{SweepNote}
use Rattle.cycle_history.specs.Requests.{Marking}
use Rattle.cycle_history.specs.Objects.{Object, is_placed, live}
use Rattle.cycle_history.specs.Profile.{Bucket, Samples, is_sample, placed_by}
use Rattle.run_laws.specs.CycleSoFar.{CycleSoFar}
use Rattle.run_laws.specs.Profile.{Calls, sum_below}

-- The sum of f over a list.
abbrev pub sum_of : {X : Type 0} → (X → ℕ) → List X → ℕ
sum_of f [] = 0
sum_of f (x ∷ xs) = f x + sum_of f xs

-- A sample of the bucket that lived in cycle m, and isn't marked by the mark end behind it.
abbrev pub has_died : Marking → Samples → ℕ → Bucket → Object → Bool
has_died marked s m b o = is_sample s b o && (live marked m o && not (marked (suc m) o.id))

-- The calls of the cycle behind mark end m + 1 free, for each sweep that is noted, the samples of its life that died: `dead` has
-- their number by first page and bucket.
pub record FreesByNotes (marked : Marking) (s : Samples) (objects : List Object) (calls : Calls) (e : CycleSoFar) (m : ℕ) (dead : ℕ → Bucket → ℕ) : Type 0 where
  pub right : (life : Life) (b : Bucket) → In life (open_lives e.before) → dead life.page b ≡ count (λ o. has_died marked s m b o && o.life == life.number) objects
  pub freed : (b : Bucket) → calls.freed e.cycle b ≡ sum_of (λ (note : SweepNote). dead note.page b) e.notes

-- How many samples with a bucket of this number died at a page, by the marks of a mark end.
abbrev pub dead_in : MarkSet → ℕ → ℕ → ℕ
dead_in marks number page = count (λ (bucket : ℕ). bucket == number) (dead_of marks page)

-- The search for the marks of a mark end knows the samples of these objects: it was told which of them are sampled, and of a
-- sample that its bucket has the number n where that is bucket b.
pub record KnowsSamples (s : Samples) (objects : List Object) (sampled : List Bool) (buckets : List ℕ) (b : Bucket) (n : ℕ) : Type 0 where
  pub which : (o : Object) → In o objects → is_placed o.answer ≡ true → (slice_get sampled o.id ≡ Some true) ↔ (s.sampled o.id ≡ true)
  pub numbered : (o : Object) → In o objects → is_placed o.answer ≡ true → s.sampled o.id ≡ true
      → (slice_index buckets o.id ≡ n) ↔ ((s.stack o.id ≡ b.stack) × (o.need.slot ≡ b.slot))

-- The calls of a cycle count, worker by worker, the samples that each processor placed.
pub record CountsByWorkers (s : Samples) (calls : Calls) (e : CycleSoFar) (workers : ℕ) (by : ℕ → Bucket → ℕ) : Type 0 where
  pub procs : (o : Object) → In o e.news → o.proc < workers
  pub each : (w : ℕ) (b : Bucket) → by w b ≡ count (λ o. is_sample s b o) (placed_by w e.news)
  pub all : (b : Bucket) → calls.allocated e.cycle b ≡ sum_below workers (λ w. by w b)
