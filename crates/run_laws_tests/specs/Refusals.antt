-- What a refusal in a log tells of the journal.
use Rattle.std.specs.Prelude.{◌≡◌, ℕ, List, ◌∷◌, ◌++◌, length}
use Rattle.page_bitmap.specs.declared.line.Line.{Line}
use Rattle.page_bitmap.specs.declared.line.Line.TheVariants.{Miss}
use Rattle.page_alloc.specs.FreeRuns.{HasNoRun}
use Rattle.worker_log.specs.Logs.{Refusal}

-- Its line is the journal's, of its number and this cycle, and behind the lines before it no run of its pages was free.
pub record IsMissOf (region : ℕ) (past : List Line) (cycle : ℕ) (x : Refusal) : Type 0 where
  pub later : List Line
  pub before : List Line
  pub line : past ≡ later ++ Miss cycle x.pages x.class ∷ before
  pub number : length before ≡ x.number
  pub full : HasNoRun region before x.pages
