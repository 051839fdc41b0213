use Rattle.std.proofs.Common.{◌≡◌, ℕ, ◌<◌, take, Some}
use Rattle.std.specs.List.{slice_get}
use Rattle.page_bitmap.specs.declared.line.Line.TheVariants.{Give}
use Rattle.page_alloc.specs.Journal.{past_of}
use Rattle.cycle_history.specs.Requests.{region_of}
use Rattle.report_check.specs.Closing.{MayGive}
use Rattle.report_check.specs.Lives.{AreLives}
use Rattle.report_check.proofs.gives.judge_gives.Given as goal

-- the Gives so far may be
abbrev pub invariant-loop-number : goal.invariant-loop-number
invariant-loop-number l = record {
  lives : AreLives (region_of l.trace) (past_of (take l.number l.report.journal)) l.lives.items;
  gives : (n cycle page pages : ℕ) → n < l.number → slice_get l.report.journal n ≡ Some (Give cycle page pages) → MayGive l.report n cycle page;
}
