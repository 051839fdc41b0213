use Rattle.std.proofs.Common.{◌≡◌, ℕ, get_or, length}
use Rattle.report_check.proofs.tops.grow.Given as goal

-- the row is longer, with 0 at the new places
abbrev pub invariant-loop-place : goal.invariant-loop-place
invariant-loop-place l = record {
  count : length l.row.items ≡ l._place;
  same : (k : ℕ) → get_or l.row.items k 0 ≡ get_or l.fn.row.items k 0;
}
