-- What a call of the scavenger did, by its answer.
use Rattle.std.specs.Prelude.{◌≡◌, ◌⊎◌, ℕ, ◌<◌, ◌≤◌, List, [], ◌∷◌, ◌++◌, length, Some, None, Result, Ok, Err}
use Rattle.std.specs.List.{AllByRecursion}
use Rattle.fallible_list.specs.declared.list.NoMemory.{NoMemory}
use Rattle.cycle_history.specs.Sound.{IsScavenged}
use Rattle.page_alloc.specs.Owners.{backed}
use Rattle.page_alloc.specs.FreeRuns.{IsLoose}
use Rattle.page_alloc.specs.Journal.{LegalFor}
use Rattle.page_bitmap.specs.declared.line.Line.{Line}
use Rattle.page_bitmap.specs.declared.line.Line.TheVariants.{Scav}
use Rattle.page_bitmap.specs.declared.line.Run.{Run}
use Rattle.span_laws.specs.TakeAnswers.{IsToldOf, cycle_at}
use Rattle.span_laws.specs.Views.{Seen}
use Rattle.span_laws.specs.Handed.{knows}
use Rattle.scavenger.specs.declared.scavenge.Reason.{Reason}
use Rattle.scavenger.specs.declared.scavenge.Reason.TheVariants.{AtGoal, NoCandidate, TurnsSpent}
use Rattle.scavenger.specs.declared.scavenge.Stopped.{Stopped}

-- the lines of runs that were released in cycle c, the newest first
abbrev pub scav_lines : ℕ → List Run → List Line
scav_lines c [] = []
scav_lines c (run ∷ runs) = Scav c run.page run.pages ∷ scav_lines c runs

-- the journal with the lines of runs that a worker released in its cycle
abbrev pub behind : Seen → List Line → List Run → List Line
behind w past runs = scav_lines (cycle_at w.view.generation) runs ++ past

-- behind a journal, which is that of which the driver was told if nothing was written since, these runs were released, each by a
-- line that the rules let stand; the driver knows the whole journal then, and nothing else changed
pub record Releases (past : List Line) (runs : List Run) (old new : Seen) : Type 0 where
  pub told : IsToldOf old past
  pub legal : LegalFor old.view.procs old.view.region old.view.goal (behind old past runs)
  pub view : new ≡ knows (behind old past runs) old

-- the run was released by a line that the rules let stand behind some journal
abbrev pub IsReleased : Seen → Run → Type 0
IsReleased w run = (past : List Line) × LegalFor w.view.procs w.view.region w.view.goal (Scav (cycle_at w.view.generation) run.page run.pages ∷ past)

-- so was each of these runs, by a worker that is not the driver; the journal behind its last step is this one, which is legal. It knows no
-- journal then, and nothing else changed
pub record ReleasesEach (past : List Line) (runs : List Run) (old new : Seen) : Type 0 where
  pub each : AllByRecursion (IsReleased old) runs
  pub legal : LegalFor old.view.procs old.view.region old.view.goal past
  pub view : new ≡ record old { journal = None }

-- why no further step was made behind a journal, after n runs: backed pages were at most the goal; or more were, and no free page was
-- backed; or as many runs were released as the region has pages
abbrev pub StopsFor : ℕ → ℕ → List Line → ℕ → Reason → Type 0
StopsFor region goal past n AtGoal = (backed region past ≤ goal) × (n < region)
StopsFor region goal past n NoCandidate = (goal < backed region past) × ((p : ℕ) → p < region → ¬ IsLoose past p) × (n < region)
StopsFor region goal past n TurnsSpent = n ≡ region

-- the reason of a step that released nothing, with so many backed pages
abbrev pub IsReason : ℕ → ℕ → Reason → Type 0
IsReason n goal AtGoal = n ≤ goal
IsReason n goal NoCandidate = goal < n
IsReason n goal TurnsSpent = ⊥

-- the driver released runs and stopped for its reason, with so many backed pages; or memory ran out, at its first step or behind some runs
abbrev pub Scavenges : Seen → Seen → Result Stopped NoMemory → Type 0
Scavenges old new (Ok stopped) = (past : List Line) × (runs : List Run) × Releases past runs old new
    × (stopped.backed ≡ backed old.view.region (behind old past runs)) × StopsFor old.view.region old.view.goal (behind old past runs) (length runs) stopped.reason
Scavenges old new (Err none) = (new ≡ old) ⊎ ((past : List Line) × (runs : List Run) × Releases past runs old new × (length runs < old.view.region))

-- so did another worker, each step behind some journal
abbrev pub ScavengesApart : Seen → Seen → Result Stopped NoMemory → Type 0
ScavengesApart old new (Ok stopped) = (past : List Line) × (runs : List Run) × ReleasesEach past runs old new
    × (stopped.backed ≡ backed old.view.region past) × StopsFor old.view.region old.view.goal past (length runs) stopped.reason
ScavengesApart old new (Err none) = (new ≡ old) ⊎ ((past : List Line) × (runs : List Run) × ReleasesEach past runs old new × (length runs < old.view.region))

-- the driver knows the whole journal, behind which backed pages are at most the goal or no free page is backed
abbrev pub EndsScavenged : Seen → Type 0
EndsScavenged w = (past : List Line) × (w.journal ≡ Some past) × IsScavenged w.view.region w.view.goal past
