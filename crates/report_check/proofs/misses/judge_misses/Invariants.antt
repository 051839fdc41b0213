use Rattle.std.proofs.Common.{◌≡◌, length}
use Rattle.report_check.proofs.Missed.{AreNamed}
use Rattle.report_check.proofs.misses.judge_misses.Given as goal

-- the lines that the objects so far name are named
abbrev pub invariant-loop-item : goal.invariant-loop-item
invariant-loop-item l = record {
  number : l.number ≡ l.item-index;
  size : length l.named.items ≡ length l.journal;
  named : AreNamed l.journal l.items l.item-index l.named.items;
}
