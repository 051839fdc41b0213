use Rattle.std.proofs.Common.{◌≤◌, ◌<◌, ◌+◌, ◌-◌, ℕ, length, get_or}
use Rattle.sweep_reads.proofs.marks.strides_of.Given as goal

abbrev pub invariant-loop-end : goal.invariant-loop-end
invariant-loop-end l = record {
  order : l.start ≤ l.end;
  inside : l.end ≤ length l.marks;
  before : (k : ℕ) (d : ℕ × ℕ) → k < l.end → (get_or l.marks k d).0 < l.page + 1;
}

abbrev pub decreases-loop-end : goal.decreases-loop-end
decreases-loop-end l = length l.marks - l.end
