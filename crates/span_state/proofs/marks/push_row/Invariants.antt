use Rattle.std.proofs.Common.{◌≡◌, ◌+◌, ◌++◌, get_or, vec_capacity}
use Rattle.span_state.specs.Groups.{page_pairs}
use Rattle.span_state.proofs.marks.push_row.Given as goal

-- the pairs of the groups so far are pushed
abbrev pub invariant-loop-group : goal.invariant-loop-group
invariant-loop-group l = record {
  items : l.pairs.items ≡ l.fn.pairs.items ++ page_pairs l.group l.page (λ g. get_or l.row g 0);
  room : vec_capacity l.pairs ≡ vec_capacity l.fn.pairs;
}

-- and those of the groups behind the row
abbrev pub invariant-loop-group-2 : goal.invariant-loop-group-2
invariant-loop-group-2 l = record {
  items : l.pairs.items ≡ l.fn.pairs.items ++ page_pairs (16 + l.group) l.page (λ g. get_or l.row g 0);
  room : vec_capacity l.pairs ≡ vec_capacity l.fn.pairs;
}
