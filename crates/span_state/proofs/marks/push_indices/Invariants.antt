use Rattle.std.proofs.Common.{◌≡◌, ℕ, ◌+◌, ◌++◌, get_or, vec_capacity}
use Rattle.span_state.specs.Groups.{page_pairs}
use Rattle.span_state.specs.MarkSet.{indices_at}
use Rattle.span_state.proofs.marks.push_indices.Given as goal

-- the indices of the groups so far are pushed
abbrev pub invariant-loop-group : goal.invariant-loop-group
invariant-loop-group l = record {
  items : (page : ℕ) → l.indices.items ≡ l.fn.indices.items ++ indices_at page (page_pairs l.group page (λ g. get_or l.row g 0));
  room : vec_capacity l.indices ≡ vec_capacity l.fn.indices;
}

-- and those of the groups behind the row
abbrev pub invariant-loop-group-2 : goal.invariant-loop-group-2
invariant-loop-group-2 l = record {
  items : (page : ℕ) → l.indices.items ≡ l.fn.indices.items ++ indices_at page (page_pairs (16 + l.group) page (λ g. get_or l.row g 0));
  room : vec_capacity l.indices ≡ vec_capacity l.fn.indices;
}
