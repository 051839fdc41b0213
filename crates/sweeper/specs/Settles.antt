-- What becomes of a span in hand.
use Rattle.std.specs.Prelude.{◌≡◌, ◌⊎◌, ℕ, ◌<◌, Bool, true, false, [], ◌∷◌, ◌++◌}
use Rattle.page_bitmap.specs.Counts.{one_if}
use Rattle.span_state.specs.MarkSet.{MarkSet}
use Rattle.span_state.specs.declared.body.Body.{Body}
use Rattle.span_state.specs.declared.sweep.SweepNote.{SweepNote}
use Rattle.span_state.specs.declared.sweep.Swept.{Swept}
use Rattle.worker_log.specs.declared.Entry.TheVariants.{Added, Read, Swept as SweptEntry}
use Rattle.worker_log.specs.SetNumbers.{swept_set}
use Rattle.span_laws.specs.declared.said.Said.TheVariants.{Adds, Fills, Gives, Reads}
use Rattle.span_laws.specs.declared.said.SaidOf.TheVariants.{Releases}
use Rattle.span_laws.specs.BodyAsks.{HasRoom, IsFullBody}
use Rattle.span_laws.specs.Views.{Seen, span_of}
use Rattle.span_laws.specs.OwnSteps.{after_of, after_said}
use Rattle.span_set.specs.Sweeps.{SweepsBody, note_of}
use Rattle.span_set.specs.declared.hand.Hand.{Hand}

-- a swept body goes where it belongs: back to the heap where nothing is kept, else to the swept set that it fits
abbrev pub GoesHome : Body → Swept → Seen → Seen → Type 0
GoesHome b n mid new = ((n.kept ≡ 0) × (new ≡ after_said (Gives b.page b.pages) mid))
    ⊎ ((0 < n.kept) × ((full : Bool) × (full ≡ true → IsFullBody b) × (full ≡ false → HasRoom b)
    × (new ≡ after_said (Fills (swept_set mid.view.generation b.class (one_if full)) b.page) (after_said (Reads 1 mid.view.generation) mid))))

-- a span in hand was swept by the marks, noted, and put where it belongs
pub record Settles (marks : MarkSet) (b : Body) (old new : Hand) (note : SweepNote) : Type 0 where
  pub body : Body
  pub counts : Swept
  pub before : ℕ
  pub mid : Seen
  pub swept : SweepsBody marks b body counts
  pub note_is : note ≡ note_of old.worker.view.generation body counts
  pub notes : new.notes.items ≡ old.notes.items ++ note_of old.worker.view.generation body counts ∷ []
  pub view : mid ≡ after_of Releases (span_of body) (after_said (Adds 2 before body.pages) (after_said (Reads 1 old.worker.view.generation) (after_said (Reads 1 old.worker.view.generation) old.worker)))
  pub log : mid.view.own.log ≡ SweptEntry (record { page = body.page; pages = body.pages; kept = counts.kept; freed = counts.freed })
      ∷ Added 2 body.pages ∷ Read 2 before ∷ Read 1 old.worker.view.generation ∷ Read 1 old.worker.view.generation ∷ old.worker.view.own.log
  pub goes : GoesHome body counts mid new.worker
