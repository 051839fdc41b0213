use Rattle.std.proofs.Common.{arith}
use Rattle.page_summary.proofs.Joins.{sum-join}
use Rattle.page_summary.proofs.join.join.Goals as goal
use Rattle.page_summary.proofs.join.join.Goals.{then-left-done, else-left-done}

pub returns-then-right-pages-clause-sum : goal.returns-then-right-pages-clause-sum
returns-then-right-pages-clause-sum c = λ map left right. elim c.if-left-done.branch [
  | then-left-done w ↦ sum-join map _ _ _ _ _ _ _ _ _ _ _ left right (λ e. omega arith) (λ e. absurd (omega arith)) (omega arith) (λ e. omega arith) (λ e. absurd (omega arith))
  | else-left-done w ↦ sum-join map _ _ _ _ _ _ _ _ _ _ _ left right (λ e. absurd (omega arith)) (λ e. omega arith) (omega arith) (λ e. omega arith) (λ e. absurd (omega arith))
]

pub returns-else-right-pages-clause-sum : goal.returns-else-right-pages-clause-sum
returns-else-right-pages-clause-sum c = λ map left right. elim c.if-left-done.branch [
  | then-left-done w ↦ sum-join map _ _ _ _ _ _ _ _ _ _ _ left right (λ e. omega arith) (λ e. absurd (omega arith)) (omega arith) (λ e. absurd (omega arith)) (λ e. omega arith)
  | else-left-done w ↦ sum-join map _ _ _ _ _ _ _ _ _ _ _ left right (λ e. absurd (omega arith)) (λ e. omega arith) (omega arith) (λ e. absurd (omega arith)) (λ e. omega arith)
]
