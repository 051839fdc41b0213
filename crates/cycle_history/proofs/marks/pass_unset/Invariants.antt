use Rattle.std.proofs.Common.{◌≡◌, ℕ, ◌-◌, ◌<◌, ◌≤◌, false, get_or, length}
use Rattle.cycle_history.proofs.marks.pass_unset.Given as goal

-- none is set so far
abbrev pub invariant-loop-end : goal.invariant-loop-end
invariant-loop-end l = record {
  order : l.low ≤ l.end;
  inside : l.end ≤ length l.flags;
  unset : (i : ℕ) → l.low ≤ i → i < l.end → get_or l.flags i false ≡ false;
}

abbrev pub decreases-loop-end : goal.decreases-loop-end
decreases-loop-end l = length l.flags - l.end
