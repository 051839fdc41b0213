use Rattle.std.proofs.Common.{arith}
use Rattle.span_state.proofs.Added.{none-counted, none-marked}
use Rattle.span_state.proofs.Indices.{length-indices_at}
use Rattle.span_state.proofs.marks.Marks.count.Goals as goal

pub returns-clause-count : goal.returns-clause-count
returns-clause-count c =
    let all = c.len_at.ensures in
    let own = length-indices_at c.args.page c.args.self.now.pairs in
    omega arith

pub returns-clause-none : goal.returns-clause-none
returns-clause-none c =
    let all = c.len_at.ensures in
    let own = length-indices_at c.args.page c.args.self.now.pairs in (
      (λ zero_ k. none-marked c.args.self.now.pairs c.args.page k (omega arith)),
      (λ none. (let nothing = none-counted c.args.self.now.pairs c.args.page none in omega arith)),
    )
