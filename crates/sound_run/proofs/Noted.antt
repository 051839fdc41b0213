-- The note of a sweep is right.
use Rattle.std.proofs.Common.{◌≡◌, ℕ, suc, Bool, ◌&&◌, not, List, sym, ◌∙◌}
use Rattle.page_bitmap.specs.declared.line.Line.{Line}
use Rattle.page_alloc.specs.Lives.{Life}
use Rattle.span_state.specs.Bits.{count_below}
use Rattle.span_state.specs.declared.sweep.SweepNote.{SweepNote}
use Rattle.cycle_history.specs.Requests.{Marking}
use Rattle.cycle_history.specs.Objects.{Object, kept}
use Rattle.cycle_history.specs.Sweeps.{IsOpenAfter, IsNote}
use Rattle.sound_run.specs.Run.{count_for, IsRun}
use Rattle.sound_run.specs.Spans.{AreBits, AreMarks}
use Rattle.sound_run.proofs.Sweeps.{AreDistinct, sweep-kept, sweep-freed}

-- the two numbers of a sweep, counted over the life's bits and marks, make its note right
pub note-right : (marked : Marking) (region goal c m : ℕ) (past : List Line) (objects : List Object) (life : Life) (bits marks : ℕ → Bool) (note : SweepNote)
    → IsRun marked region goal c past objects → AreDistinct objects → IsOpenAfter past m life → AreBits marked m objects life.number bits → AreMarks marked (suc m) objects life.number marks
    → note.cycle ≡ suc m → note.page ≡ life.page → note.kept ≡ count_below (count_for life.class) marks → note.freed ≡ count_below (count_for life.class) (λ k. bits k && not (marks k))
    → IsNote marked objects (suc m) life note
note-right marked region goal c m past objects life bits marks note run ids alive is are cycle page kept freed = record {
  cycle = cycle;
  page = page;
  kept = kept ∙ sym (sweep-kept marked region goal c m past objects life marks run ids alive are);
  freed = freed ∙ sym (sweep-freed marked region goal c m past objects life bits marks run ids alive is are);
}
