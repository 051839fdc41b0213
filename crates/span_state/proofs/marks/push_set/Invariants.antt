use Rattle.std.proofs.Common.{◌≡◌, ◌+◌, ◌++◌, length, vec_capacity}
use Rattle.span_state.specs.Groups.{group_pairs}
use Rattle.span_state.proofs.marks.push_set.Given as goal

-- with the pairs of the bits left, all are there
abbrev pub invariant-loop-pushed : goal.invariant-loop-pushed
invariant-loop-pushed l = record {
  items : l.pairs.items ++ group_pairs ((l.page, l.group), l.left) ≡ l.fn.pairs.items ++ group_pairs ((l.page, l.group), l.word);
  count : l.pushed + length (group_pairs ((l.page, l.group), l.left)) ≡ length (group_pairs ((l.page, l.group), l.word));
  room : vec_capacity l.pairs ≡ vec_capacity l.fn.pairs;
}
