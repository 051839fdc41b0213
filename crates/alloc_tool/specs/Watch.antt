-- What a call of `watch` writes.
use Rattle.std.specs.Prelude.{◌≡◌, ℕ, false, List, ◌++◌}
use Rattle.trace_reader.specs.declared.trace.Trace.{Trace}
use Rattle.cycle_history.specs.declared.Report.{Report}
use Rattle.cycle_history.specs.Text.{report_text}
use Rattle.profile_readers.specs.declared.viewer.Sight.{Sight}
use Rattle.heap_run.specs.Versions.{IsWatchedByVersion}
use Rattle.sight_text.specs.Text.{seen_text}
use Rattle.alloc_tool.specs.Top.{IsAnswer}

-- The text of an answer with the profile of the last mark end, and behind it the lines of what so many watchers saw of that run's profile.
abbrev pub IsWatchText : ℕ → Trace → List ℕ → Type 0
IsWatchText readers trace written = (report : Report) × (seen : List (List Sight))
    × IsAnswer false trace report × IsWatchedByVersion trace readers report seen × (written ≡ report_text report ++ seen_text 0 seen)
