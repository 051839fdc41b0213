-- What an allocation counts in the profile.
use Rattle.std.specs.Prelude.{◌≡◌, ℕ, Bool, true, false, List, ◌++◌}
use Rattle.profile_cycle.specs.declared.calls.What.TheVariants.{Allocated}
use Rattle.profile_cycle.specs.History.{Standing, calls}
use Rattle.span_state.specs.MarkSet.{MarkSet}
use Rattle.span_state.specs.declared.sweep.SweepNote.{SweepNote}
use Rattle.span_set.specs.declared.hand.Hand.{Hand}
use Rattle.span_set.specs.Tallies.{freeing}

-- a sampled object is one call that counts an allocation of its bucket, and any other is none
abbrev pub counted : Bool → ℕ → Standing → Standing
counted true bucket t = calls t (Allocated bucket)
counted false bucket t = t

-- the notes got these more, and the tally counted just the frees of these sweeps, and then the object of the bucket where it is sampled
pub record CountsOne (m : MarkSet) (bucket : ℕ) (sampled : Bool) (old new : Hand) : Type 0 where
  pub more : List SweepNote
  pub notes : new.notes.items ≡ old.notes.items ++ more
  pub tally : new.tally ≡ counted sampled bucket (freeing m more old.tally)
