use Rattle.std.proofs.Common.{◌≡◌, ℕ, ◌+◌, ◌*◌, ◌≤◌, length, get_or}
use Rattle.span_state.specs.Groups.{page_pairs}
use Rattle.span_state.proofs.marks.marks_in.Given as goal

-- the groups so far are counted
abbrev pub invariant-loop-group : goal.invariant-loop-group
invariant-loop-group l = record {
  exact : (page : ℕ) → l.marks ≡ length (page_pairs l.group page (λ g. get_or l.row g 0));
  few : l.marks ≤ 64 * l.group;
}

-- and those behind the row
abbrev pub invariant-loop-group-2 : goal.invariant-loop-group-2
invariant-loop-group-2 l = record {
  exact : (page : ℕ) → l.marks ≡ length (page_pairs (16 + l.group) page (λ g. get_or l.row g 0));
  few : l.marks ≤ 64 * (16 + l.group);
}
