-- What the calls that sweep leave of a hand's tally: the frees of the samples that the swept spans lost.
use Rattle.std.specs.Prelude.{◌≡◌, ℕ, ◌<◌, List, [], ◌∷◌, ◌++◌, All}
use Rattle.profile_cycle.specs.declared.calls.What.TheVariants.{Freed}
use Rattle.profile_cycle.specs.History.{RingId, Standing, calls}
use Rattle.span_state.specs.MarkSet.{MarkSet, dead_of}
use Rattle.span_state.specs.declared.sweep.SweepNote.{SweepNote}
use Rattle.span_set.specs.declared.hand.Hand.{Hand}

-- each death is a call that counts a free, in order
abbrev pub frees_all : List ℕ → Standing → Standing
frees_all [] t = t
frees_all (bucket ∷ more) t = frees_all more (calls t (Freed bucket))

-- the sweeps of these notes, the oldest first, count the dead samples that the marks name at their pages
abbrev pub freeing : MarkSet → List SweepNote → Standing → Standing
freeing m [] t = t
freeing m (note ∷ later) t = freeing m later (frees_all (dead_of m note.page) t)

-- the notes got these more, and the tally counted just the frees of these sweeps
pub record Frees (m : MarkSet) (old new : Hand) : Type 0 where
  pub more : List SweepNote
  pub notes : new.notes.items ≡ old.notes.items ++ more
  pub tally : new.tally ≡ freeing m more old.tally

-- the tally is of the ring, and each bucket that the marks name as dead is one of it
pub record MayCount (r : RingId) (m : MarkSet) (t : Standing) : Type 0 where
  pub ring : t.ring ≡ r
  pub dead : (page : ℕ) → All (λ b. b < r.buckets) (dead_of m page)
