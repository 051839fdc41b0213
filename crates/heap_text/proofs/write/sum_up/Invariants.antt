use Rattle.std.proofs.Common.{◌≡◌, take}
use Rattle.heap_text.specs.Text.{sums_of}
use Rattle.heap_text.proofs.write.sum_up.Given as goal

abbrev pub invariant-loop-line : goal.invariant-loop-line
invariant-loop-line l = l.sums ≡ sums_of (take l.line-index l.lines)
