use Rattle.std.proofs.Common.{◌≡◌, ℕ, ◌++◌, vec_capacity}
use Rattle.span_state.specs.Groups.{group_pairs}
use Rattle.span_state.specs.MarkSet.{indices_at}
use Rattle.span_state.proofs.marks.push_bits.Given as goal

-- with the indices of the bits left, all are there
abbrev pub invariant-loop-left : goal.invariant-loop-left
invariant-loop-left l = record {
  items : (page : ℕ) → l.indices.items ++ indices_at page (group_pairs ((page, l.group), l.left)) ≡ l.fn.indices.items ++ indices_at page (group_pairs ((page, l.group), l.word));
  room : vec_capacity l.indices ≡ vec_capacity l.fn.indices;
}

abbrev pub decreases-loop-left : goal.decreases-loop-left
decreases-loop-left l = l.left
