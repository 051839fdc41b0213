-- What is a fact of the sweeps of a cycle that has ended, and of the notes that tell of them.
use Rattle.std.specs.Prelude.{◌≡◌, ℕ, ◌<◌, ◌&&◌, not}
use Rattle.page_alloc.specs.Lists.{In, AllApart}
use Rattle.page_alloc.specs.Lives.{Life, open_lives}
use Rattle.span_state.specs.Bits.{count_below}
use Rattle.span_state.specs.declared.sweep.SweepNote.{SweepNote}
use Rattle.sound_run.specs.Run.{count_for}
use Rattle.worker_log.specs.declared.Sweeping.{Sweeping}
use Rattle.worker_log.specs.Logs.{sweepings}
use Rattle.run_laws.specs.CycleSoFar.{CycleSoFar}

-- Each life that was open as the cycle began was swept, and nothing else was. A sweep counts the marked indices of the
-- life as kept, and its other carried indices as freed.
pub record Sweeps (e : CycleSoFar) : Type 0 where
  pub each : (life : Life) → In life (open_lives e.before) → (w : ℕ) × (s : Sweeping) × In s (sweepings (e.logs w)) × (s.page ≡ life.page)
  pub only : (w : ℕ) (s : Sweeping) → In s (sweepings (e.logs w)) → (life : Life) × In life (open_lives e.before) × (s.page ≡ life.page)
  pub kept : (w : ℕ) (s : Sweeping) (life : Life) → In s (sweepings (e.logs w)) → In life (open_lives e.before) → s.page ≡ life.page
      → s.kept ≡ count_below (count_for life.class) (λ k. e.marks life.page k)
  pub freed : (w : ℕ) (s : Sweeping) (life : Life) → In s (sweepings (e.logs w)) → In life (open_lives e.before) → s.page ≡ life.page
      → s.freed ≡ count_below (count_for life.class) (λ k. e.carried life.page k && not (e.marks life.page k))

-- A note tells of a sweep in this cycle.
pub record TellsOf (c : ℕ) (s : Sweeping) (note : SweepNote) : Type 0 where
  pub cycle : note.cycle ≡ c
  pub page : note.page ≡ s.page
  pub kept : note.kept ≡ s.kept
  pub freed : note.freed ≡ s.freed

-- The notes of the cycle tell of the sweeps in all logs, and rise by page.
pub record Notes (e : CycleSoFar) : Type 0 where
  pub from : (note : SweepNote) → In note e.notes → (w : ℕ) × (s : Sweeping) × In s (sweepings (e.logs w)) × TellsOf e.cycle s note
  pub each : (w : ℕ) (s : Sweeping) → In s (sweepings (e.logs w)) → (note : SweepNote) × In note e.notes × TellsOf e.cycle s note
  pub order : AllApart (λ (newer older : SweepNote). older.page < newer.page) e.notes
