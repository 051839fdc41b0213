-- The lines of a report, by their numbers from 1: its answers, its journal, its sweeps, its totals, its profile, and `end`.
use Rattle.std.specs.Prelude.{ℕ, ◌+◌, ◌<◌, length}
use Rattle.cycle_history.specs.declared.Report.{Report}

-- The line of the answer of object i.
abbrev pub answer_at : ℕ → ℕ
answer_at i = i + 1

-- The line of journal line n.
abbrev pub journal_at : Report → ℕ → ℕ
journal_at report n = length report.answers + n + 1

-- The line of the sweep at place k, from 0.
abbrev pub sweep_at : Report → ℕ → ℕ
sweep_at report k = length report.answers + length report.journal + k + 1

-- The line of the total at place k, from 0.
abbrev pub total_at : Report → ℕ → ℕ
total_at report k = length report.answers + length report.journal + length report.sweeps + k + 1

-- The line of the profile at place k, from 0.
abbrev pub profile_at : Report → ℕ → ℕ
profile_at report k = length report.answers + length report.journal + length report.sweeps + length report.totals + k + 1

-- The line `end`, which is the last.
abbrev pub end_of : Report → ℕ
end_of report = length report.answers + length report.journal + length report.sweeps + length report.totals + length report.profile + 1

-- A number is the least of those that a test holds of.
pub record IsLeast (holds : ℕ → Type 0) (n : ℕ) : Type 0 where
  pub here : holds n
  pub least : (m : ℕ) → m < n → ¬ holds m
