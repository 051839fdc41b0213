use Rattle.std.proofs.Common.{◌≡◌, ℕ, ◌<◌, false, List, None, Some, get_or}
use Rattle.span_state.specs.declared.sweep.SweepNote.{SweepNote}
use Rattle.report_check.specs.declared.lives.OpenLife.{OpenLife}
use Rattle.report_check.specs.Keys.{AreKeys}
use Rattle.report_check.specs.Sweeping.{HasNote}
use Rattle.report_check.proofs.unswept.all_noted.Given as goal

-- the lives so far have sweeps
abbrev pub invariant-loop-page : goal.invariant-loop-page
invariant-loop-page l = (sweeps : List SweepNote) → AreKeys false sweeps l.keys → (page : ℕ) (life : OpenLife) → page < l.page → get_or l.lives page None ≡ Some life → HasNote (λ note. Unit {0}) sweeps l.cycle page
