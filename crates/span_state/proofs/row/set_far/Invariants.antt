use Rattle.std.proofs.Common.{◌≡◌, ℕ, suc, ◌-◌, ◌<◌, ◌≤◌, length, get_or}
use Rattle.span_state.proofs.row.set_far.Given as goal

-- words of 0 were put at the end
abbrev pub invariant-loop-far : goal.invariant-loop-far
invariant-loop-far l = record {
  same : (g : ℕ) → get_or l.far.items g 0 ≡ get_or l.fn.far.items g 0;
  few : (size : ℕ) → length l.fn.far.items ≤ size → l.at < size → length l.far.items ≤ size;
}

abbrev pub decreases-loop-far : goal.decreases-loop-far
decreases-loop-far l = suc l.at - length l.far.items
