use Rattle.std.proofs.Common.{ℕ, List, length, get_or, sym, ◌∙◌, ap, arith}
use Rattle.std.proofs.lemmas.List.{length-append}
use Rattle.span_state.proofs.RowWords.{near-at}
use Rattle.span_state.proofs.row.Row.near.Goals as goal

pub returns-clause-len : goal.returns-clause-len
returns-clause-len c =
    let near = c.self.invariant in
    let both = length-append c.self.inside.near c.self.inside.far.items in
    let all = ap (λ (row : List ℕ). length row) c.self.view_is in
    omega arith

pub returns-clause-words : goal.returns-clause-words
returns-clause-words c = λ g lt. sym (near-at c.self.inside.near c.self.inside.far.items g c.self.invariant lt) ∙ ap (λ (row : List ℕ). get_or row g 0) c.self.view_is
