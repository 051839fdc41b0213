use Rattle.std.proofs.Common.{◌≡◌, ℕ, suc, ◌-◌, ◌<◌, ◌≤◌, length, get_or}
use Rattle.span_state.proofs.rows.extend.Given as goal

-- places of 0 were put at the end
abbrev pub invariant-loop-places : goal.invariant-loop-places
invariant-loop-places l = record {
  same : (q : ℕ) → get_or l.places.items q 0 ≡ get_or l.fn.places.items q 0;
  few : (size : ℕ) → length l.fn.places.items ≤ size → l.page < size → length l.places.items ≤ size;
}

abbrev pub decreases-loop-places : goal.decreases-loop-places
decreases-loop-places l = suc l.page - length l.places.items
