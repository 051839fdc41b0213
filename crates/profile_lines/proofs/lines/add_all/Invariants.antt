use Rattle.std.proofs.Common.{◌≡◌, ◌++◌, take}
use Rattle.profile_lines.specs.Read.{all_lines}
use Rattle.profile_lines.proofs.lines.add_all.Given as goal

abbrev pub invariant-loop-number : goal.invariant-loop-number
invariant-loop-number l = record {
  tally : l.tally ≡ l.fn.tally;
  lines : l.lines ≡ l.initial.lines ++ all_lines l.buckets l.fn.tally.view.calls l.mark (take l.number-index l.order);
}
