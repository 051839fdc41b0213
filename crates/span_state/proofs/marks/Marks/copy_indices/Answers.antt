use Rattle.std.proofs.Common.{◌≡◌, ℕ, List, [], ◌++◌, length, get_or, sym, ◌∙◌, ap, arith, rules}
use Rattle.span_state.specs.Groups.{page_pairs, row_of}
use Rattle.span_state.specs.MarkSet.{indices_at}
use Rattle.span_state.proofs.Indices.{indices_at-marks, indices_at-none, room-row}
use Rattle.span_state.proofs.marks.Marks.copy_indices.Goals as goal

pub push_indices-requires-clause-room : goal.push_indices-requires-clause-room
push_indices-requires-clause-room c = λ page.
    (let all = rw (← c.self.view_is) at c.requires.room in
    let few = room-row c.self.inside.rows c.in-Some.row.now c.args.page page _ c.in-Some.ensures all in
    omega arith)

pub returns-in-Some-clause-items : goal.returns-in-Some-clause-items
returns-in-Some-clause-items c =
    rw (← c.self.view_is) (c.push_indices.ensures.items c.args.page
    ∙ ap (λ (xs : List ℕ). xs ++ indices_at c.args.page (page_pairs (length c.in-Some.row.now) c.args.page (λ g. get_or c.in-Some.row.now g 0))) c.clear.ensures.items
    ∙ indices_at-marks c.self.inside.rows c.args.page c.in-Some.row.now c.in-Some.ensures)

pub returns-in_default-clause-items : goal.returns-in_default-clause-items
returns-in_default-clause-items c =
    let none : row_of c.self.inside.rows c.args.page ≡ [] = search rules in
    rw (← c.self.view_is) (c.clear.ensures.items ∙ sym (indices_at-none c.self.inside.rows c.args.page none))
