use Rattle.std.proofs.Common.{◌≡◌, length}
use Rattle.span_state.specs.Groups.{grid_pairs, row_of, word_of}
use Rattle.span_state.proofs.marks.Marks.total.Given as goal

-- the pages so far are counted
abbrev pub invariant-loop-page : goal.invariant-loop-page
invariant-loop-page l = l.total ≡ length (grid_pairs l.page (λ page. length (row_of l.self-inside.rows page)) (word_of l.self-inside.rows))
