use Rattle.std.proofs.Common.{arith}
use Rattle.page_bitmap.proofs.Bits.{has_bit-zero, leading_zeros-highest}
use Rattle.page_bitmap.proofs.word.highest_one.Goals as goal

pub returns-then-word-eq0-clause-none : goal.returns-then-word-eq0-clause-none
returns-then-word-eq0-clause-none c = λ k. rw c.if-word-eq0.true (has_bit-zero k)

pub returns-else-word-eq0-clause-one : goal.returns-else-word-eq0-clause-one
returns-else-word-eq0-clause-one c =
    let t = leading_zeros-highest c.args.word (omega arith) (omega arith) in (t.1.within, t.1.one)

pub returns-else-word-eq0-clause-highest : goal.returns-else-word-eq0-clause-highest
returns-else-word-eq0-clause-highest c =
    let t = leading_zeros-highest c.args.word (omega arith) (omega arith) in t.1.highest
