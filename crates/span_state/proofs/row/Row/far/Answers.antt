use Rattle.std.proofs.Common.{◌≡◌, ℕ, ◌+◌, ◌-◌, List, length, get_or, sym, ◌∙◌, ap, arith}
use Rattle.std.proofs.lemmas.List.{length-append}
use Rattle.span_state.proofs.RowWords.{far-at}
use Rattle.span_state.proofs.row.Row.far.Goals as goal

pub returns-clause-len : goal.returns-clause-len
returns-clause-len c =
    let near = c.self.invariant in
    let both = length-append c.self.inside.near c.self.inside.far.items in
    let all = ap (λ (row : List ℕ). length row) c.self.view_is in
    let far = ap (λ (row : List ℕ). length row) c.as_slice.ensures.value in
    omega arith

pub returns-clause-words : goal.returns-clause-words
returns-clause-words c = λ g.
    (let back : 16 + g - 16 ≡ g = omega arith in
    let at = far-at c.self.inside.near c.self.inside.far.items (16 + g) c.self.invariant (omega arith) ∙ ap (λ (n : ℕ). get_or c.self.inside.far.items n 0) back in
    ap (λ (row : List ℕ). get_or row g 0) c.as_slice.ensures.value ∙ sym at ∙ ap (λ (row : List ℕ). get_or row (16 + g) 0) c.self.view_is)
