-- What a sweep in hand did.
use Rattle.std.specs.Prelude.{◌≡◌, ℕ, ◌&&◌, not, true, ◌∷◌}
use Rattle.span_state.specs.Bits.{count_below}
use Rattle.span_state.specs.MarkSet.{MarkSet, is_marked}
use Rattle.span_state.specs.Spans.{IsSameSpan, allocated}
use Rattle.span_state.specs.declared.body.Body.{Body}
use Rattle.span_state.specs.declared.sweep.SweepNote.{SweepNote}
use Rattle.span_state.specs.declared.sweep.Swept.{Swept}
use Rattle.sweep_laws.specs.Lists.{has}
use Rattle.worker_log.specs.declared.Entry.TheVariants.{Added, Read, Swept as SweptEntry}
use Rattle.span_laws.specs.declared.said.Said.TheVariants.{Adds, Reads}
use Rattle.span_laws.specs.declared.said.SaidOf.TheVariants.{Releases}
use Rattle.span_laws.specs.TakeAnswers.{cycle_at}
use Rattle.span_laws.specs.BodyAsks.{HasMarked}
use Rattle.span_laws.specs.Asks.{HasBody}
use Rattle.span_laws.specs.Views.{Seen, span_of}
use Rattle.span_laws.specs.OwnSteps.{after_of, after_said}

-- a worker may sweep a body by marks: it sweeps the span and was lent the body, the marks are those of the last mark end, and each marked
-- index of the page is allocated
pub record MaySweep (m : MarkSet) (b : Body) (w : Seen) : Type 0 where
  pub sweeping : has b.page w.view.own.sweeping ≡ true
  pub lent : HasBody w.view.own b
  pub marks : m.pairs ≡ w.view.marks
  pub marked : HasMarked w.view.marks b

-- the body has just the marked objects, and the free index 0; so many were kept and freed
pub record SweepsBody (marks : MarkSet) (old new : Body) (n : Swept) : Type 0 where
  pub marked : (k : ℕ) → allocated new k ≡ is_marked marks old.page k
  pub next : new.next ≡ 0
  pub same : IsSameSpan old new
  pub kept : n.kept ≡ count_below old.count (is_marked marks old.page)
  pub freed : n.freed ≡ count_below old.count (λ k. allocated old k && not (is_marked marks old.page k))

-- the note of a sweep of a body in the cycle of a generation
abbrev pub note_of : ℕ → Body → Swept → SweepNote
note_of g b n = record { cycle = cycle_at g; page = b.page; kept = n.kept; freed = n.freed }

-- the worker read the generation, added the pages, and released the body; its log tells just that, with the numbers of the sweep
pub record SweepsInHand (b : Body) (n : Swept) (old new : Seen) : Type 0 where
  pub before : ℕ
  pub view : new ≡ after_of Releases (span_of b) (after_said (Adds 2 before b.pages) (after_said (Reads 1 old.view.generation) old))
  pub log : new.view.own.log ≡ SweptEntry (record { page = b.page; pages = b.pages; kept = n.kept; freed = n.freed })
      ∷ Added 2 b.pages ∷ Read 2 before ∷ Read 1 old.view.generation ∷ old.view.own.log
