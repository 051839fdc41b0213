use Rattle.std.proofs.Common.{List, ℕ, length, ap, sym, arith}
use Rattle.span_state.specs.Groups.{pairs_of}
use Rattle.span_state.proofs.Added.{pairs_at-marks}
use Rattle.span_state.proofs.Indices.{indices_at-none, length-indices_at}
use Rattle.span_state.proofs.marks.Marks.len_at.Goals as goal

pub returns-in-Some : goal.returns-in-Some
returns-in-Some c =
    let all = c.marks_in.ensures c.args.page in
    let own = pairs_at-marks c.self.inside.rows c.args.page c.in-Some.row.now c.in-Some.ensures in
    let long = length-indices_at c.args.page (pairs_of c.self.inside.rows) in
    rw (← c.self.view_is) (omega arith)

pub returns-in-None : goal.returns-in-None
returns-in-None c =
    rw (← c.self.view_is) (sym (ap (λ (xs : List ℕ). length xs) (indices_at-none c.self.inside.rows c.args.page c.in-None.ensures)))
