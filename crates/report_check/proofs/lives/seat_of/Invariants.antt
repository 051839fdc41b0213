use Rattle.std.proofs.Common.{◌≤◌}
use Rattle.report_check.specs.Items.{object_of}
use Rattle.report_check.proofs.Seeking.{IsSought}
use Rattle.report_check.proofs.lives.seat_of.Given as goal

-- the pages so far have at most one life in which the object sits
abbrev pub invariant-loop-page : goal.invariant-loop-page
invariant-loop-page l = record {
  low : l.first ≤ l.page;
  sought : IsSought l.lives (object_of 0 l.item) l.first l.page l.found;
}
