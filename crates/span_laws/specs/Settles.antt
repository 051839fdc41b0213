-- What the end of a cycle tells the driver.
use Rattle.std.specs.Prelude.{◌≡◌, List, ◌++◌}
use Rattle.page_alloc.specs.Journal.{AreAllowed}
use Rattle.page_alloc.specs.Lives.{Life}
use Rattle.page_bitmap.specs.declared.line.Line.{Line}
use Rattle.span_laws.specs.TakeAnswers.{IsToldOf}
use Rattle.span_laws.specs.Cycle.{EndsCycle, cycle_ended}
use Rattle.span_laws.specs.Views.{Seen}
use Rattle.span_laws.specs.Handed.{knows}

-- The driver is told the whole journal, the lines of the cycle among it, what is so of the cycle as it ends, and that its page caches are
-- those of processors that may have one.
abbrev pub SettlesCycle : Seen → Seen → Type 0
SettlesCycle old new = (lines : List Line) × (known : List Life) × (new ≡ knows (lines ++ old.view.before) old) × IsToldOf old (lines ++ old.view.before)
    × EndsCycle old.view.region old.view.goal (cycle_ended old.number old.view lines known) × AreAllowed old.view.procs (lines ++ old.view.before)
