use Rattle.std.proofs.Common.{◌≡◌, arith}
use Rattle.commands.proofs.WholeNumber.{other_number}
use Rattle.commands.proofs.watchers.read_watchers.Goals.{then-count-lt1-via-then-count-lt1, then-count-lt1-via-else-count-lt1+then-count-gt4}
use Rattle.commands.proofs.watchers.read_watchers.Goals as goal

pub returns-then-count-lt1 : goal.returns-then-count-lt1
returns-then-count-lt1 c = λ n some few is.
    let count = c.in_ok-count.ensures in
    let same : c.in_ok-count.count ≡ n = other_number c.args.word.now c.in_ok-count.count n count.0 (omega arith) count.1 is in
    elim c.then-count-lt1.branch [
      | then-count-lt1-via-then-count-lt1 w ↦ (let none = w.if-count-lt1.true in omega arith)
      | then-count-lt1-via-else-count-lt1+then-count-gt4 w ↦ (let many = w.if-count-gt4.true in omega arith)
    ]
