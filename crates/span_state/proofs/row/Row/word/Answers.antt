use Rattle.std.proofs.Common.{ℕ, ◌-◌, ◌<◌, ◌≤◌, List, length, get_or, sym, ◌∙◌, ap, arith, rules}
use Rattle.std.proofs.lemmas.List.{get_or_past, get_or_read}
use Rattle.span_state.proofs.RowWords.{near-at, far-at}
use Rattle.span_state.proofs.row.Row.word.Goals as goal

pub returns-then-group-lt16 : goal.returns-then-group-lt16
returns-then-group-lt16 c = sym (near-at c.self.inside.near c.self.inside.far.items c.args.group c.self.invariant c.if-group-lt16.true) ∙ ap (λ (row : List ℕ). get_or row c.args.group 0) c.self.view_is

pub returns-then-group-len : goal.returns-then-group-len
returns-then-group-len c =
    let lt : c.args.group - 16 < length c.self.inside.far.items = search rules in
    get_or_read c.self.inside.far.items (c.args.group - 16) c.index.result.now lt c.index.ensures 0
    ∙ sym (far-at c.self.inside.near c.self.inside.far.items c.args.group c.self.invariant (omega arith)) ∙ ap (λ (row : List ℕ). get_or row c.args.group 0) c.self.view_is

pub returns-else-group-len : goal.returns-else-group-len
returns-else-group-len c =
    let le : length c.self.inside.far.items ≤ c.args.group - 16 = search rules in
    sym (get_or_past c.self.inside.far.items (c.args.group - 16) 0 le)
    ∙ sym (far-at c.self.inside.near c.self.inside.far.items c.args.group c.self.invariant (omega arith)) ∙ ap (λ (row : List ℕ). get_or row c.args.group 0) c.self.view_is
