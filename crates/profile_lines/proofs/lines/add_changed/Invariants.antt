use Rattle.std.proofs.Common.{◌≡◌, ◌++◌, take, drop, map}
use Rattle.profile_lines.specs.Read.{changed_lines, count_of}
use Rattle.profile_lines.proofs.lines.add_changed.Given as goal

abbrev pub invariant-loop-place : goal.invariant-loop-place
invariant-loop-place l = record {
  tally : l.tally ≡ l.fn.tally;
  before : l.before ≡ map (count_of l.fn.tally.view.calls) (take l.place l.order) ++ drop l.place l.fn.before;
  lines : l.lines ≡ l.initial.lines ++ changed_lines l.buckets l.fn.tally.view.calls l.mark (take l.place l.order) (take l.place l.fn.before);
}
