-- What a scavenging step did, by its answer.
use Rattle.std.specs.Prelude.{◌≡◌, ◌⊎◌, ℕ, ◌<◌, ◌≤◌, Bool, true, false, List, ◌∷◌, Option, Some, None, Result, Ok, Err}
use Rattle.page_alloc.specs.Owners.{backed}
use Rattle.page_alloc.specs.FreeRuns.{IsLoose}
use Rattle.page_alloc.specs.Journal.{LegalFor, MayFollow}
use Rattle.page_bitmap.specs.declared.line.Line.{Line}
use Rattle.page_bitmap.specs.declared.line.Line.TheVariants.{Scav}
use Rattle.page_bitmap.specs.declared.line.Run.{Run}
use Rattle.fallible_list.specs.declared.list.NoMemory.{NoMemory}
use Rattle.span_laws.specs.declared.answers.Step.{Step}
use Rattle.span_laws.specs.Views.{Seen, drives}
use Rattle.span_laws.specs.TakeAnswers.{cycle_at, IsToldOf}

-- a scavenging step of cycle c behind a journal: it released a run by a line that may follow, or backed pages were at most the goal or no free page was
-- backed; with the backed pages after it
abbrev pub Released : ℕ → ℕ → ℕ → List Line → ℕ → Option Run → Type 0
Released c region goal past n None = (n ≡ backed region past) × ((n ≤ goal) ⊎ ((p : ℕ) → p < region → ¬ IsLoose past p))
Released c region goal past n (Some run) = MayFollow region goal past (Scav c run.page run.pages) × (n ≡ backed region (Scav c run.page run.pages ∷ past))

-- the journal behind a scavenging step in cycle c
abbrev pub past_scavenged : ℕ → List Line → Option Run → List Line
past_scavenged c past None = past
past_scavenged c past (Some run) = Scav c run.page run.pages ∷ past

-- the driver is told of the journal; another worker knows of none
abbrev pub told_if : Bool → List Line → Option (List Line)
told_if true past = Some past
told_if false past = None

-- so it did behind a journal, which is legal with the new line, and of which the driver is told with it; or memory ran out
abbrev pub StepsOnce : Seen → Seen → Result Step NoMemory → Type 0
StepsOnce old new (Ok step) = (past : List Line) × LegalFor old.view.procs old.view.region old.view.goal (past_scavenged (cycle_at old.view.generation) past step.run) × IsToldOf old past
    × Released (cycle_at old.view.generation) old.view.region old.view.goal past step.backed step.run
    × (new ≡ record old { journal = told_if (drives old) (past_scavenged (cycle_at old.view.generation) past step.run) })
StepsOnce old new (Err none) = new ≡ old
