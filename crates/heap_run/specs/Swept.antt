-- The notes of a cycle's sweeps, as the hands of all workers collect them.
use Rattle.std.specs.Prelude.{◌≡◌, ℕ, ◌==◌, if◌then◌else◌, List, [], ◌∷◌, map, reverse}
use Rattle.span_state.specs.declared.sweep.SweepNote.{SweepNote}
use Rattle.worker_log.specs.declared.Entry.{Entry}
use Rattle.worker_log.specs.declared.Sweeping.{Sweeping}
use Rattle.worker_log.specs.Logs.{sweepings}

-- A sweep with the worker that made it.
pub record Made : Type 0 where
  pub worker : ℕ
  pub sweep : Sweeping

-- The sweeps of a worker, in their order.
abbrev pub made_by : ℕ → List Made → List Sweeping
made_by w [] = []
made_by w (x ∷ xs) = if x.worker == w then x.sweep ∷ made_by w xs else made_by w xs

-- The note of a sweep in cycle c.
abbrev pub note_at : ℕ → Sweeping → SweepNote
note_at c s = record { cycle = c; page = s.page; kept = s.kept; freed = s.freed }

-- The notes, the oldest first, tell of all sweeps in the logs, each once.
pub record AreCollected (c : ℕ) (logs : ℕ → List Entry) (notes : List SweepNote) : Type 0 where
  pub made : List Made
  pub told : notes ≡ reverse (map (λ (x : Made). note_at c x.sweep) made)
  pub each : (w : ℕ) → made_by w made ≡ sweepings (logs w)
