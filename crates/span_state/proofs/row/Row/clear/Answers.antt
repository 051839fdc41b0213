use Rattle.std.proofs.Common.{ℕ, ◌-◌, ◌/◌, ◌%◌, ◌≤◌, ◌==◌, cond, List, ◌++◌, get_or, sym, ◌∙◌, ap, arith}
use Rattle.span_state.specs.Groups.{clear_bit}
use Rattle.span_state.proofs.RowWords.{far-at, put-far}
use Rattle.span_state.proofs.row.Row.clear.Goals as goal

pub returns-else-index-lt1024-clause-clear : goal.returns-else-index-lt1024-clause-clear
returns-else-index-lt1024-clause-clear c = λ g.
    (let near = c.self.inside.near in
    let far = c.self.inside.far.items in
    let group = c.args.index / 64 in
    let le : 16 ≤ group = (let past = c.if-index-lt1024.false in omega arith) in
    let at = sym (far-at near far group c.self.invariant le) in
    put-far near far c.clear_far.new.far.items group (clear_bit (get_or (near ++ far) group 0) (c.args.index % 64)) c.self.invariant le
    (λ h. c.clear_far.ensures.clear h ∙ ap (λ (word : ℕ). cond (h == group - 16) (clear_bit word (c.args.index % 64)) (get_or far h 0)) at) g
    ∙ ap (λ (row : List ℕ). cond (g == group) (clear_bit (get_or row group 0) (c.args.index % 64)) (get_or row g 0)) c.self.view_is)
