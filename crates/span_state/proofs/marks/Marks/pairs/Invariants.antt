use Rattle.std.proofs.Common.{◌≡◌, ◌≤◌, length, vec_capacity}
use Rattle.span_state.specs.Groups.{grid_pairs, pairs_of, row_of, word_of}
use Rattle.span_state.proofs.marks.Marks.pairs.Given as goal

-- the pairs of the pages so far are pushed
abbrev pub invariant-loop-page : goal.invariant-loop-page
invariant-loop-page l = record {
  items : l.pairs.items ≡ grid_pairs l.page (λ page. length (row_of l.self-inside.rows page)) (word_of l.self-inside.rows);
  room : length (pairs_of l.self-inside.rows) ≤ vec_capacity l.pairs;
}
