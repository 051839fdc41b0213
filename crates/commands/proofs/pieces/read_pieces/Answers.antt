use Rattle.std.proofs.Common.{◌≡◌, arith}
use Rattle.commands.proofs.PiecesAsked.{same_count}
use Rattle.commands.proofs.pieces.read_pieces.Goals.{then-count-lt1-via-then-count-lt1, then-count-lt1-via-else-count-lt1+then-count-gt64}
use Rattle.commands.proofs.pieces.read_pieces.Goals as goal

pub returns-then-count-lt1 : goal.returns-then-count-lt1
returns-then-count-lt1 c = λ n some few is.
    let count = c.in_ok-count.ensures in
    let same : c.in_ok-count.count ≡ n = same_count c.args.word.now c.in_ok-after.field-0.now c.in_ok-count.count n c.in_ok-after.ensures count.0 count.1 few is in
    elim c.then-count-lt1.branch [
      | then-count-lt1-via-then-count-lt1 w ↦ (let none = w.if-count-lt1.true in omega arith)
      | then-count-lt1-via-else-count-lt1+then-count-gt64 w ↦ (let many = w.if-count-gt64.true in omega arith)
    ]
