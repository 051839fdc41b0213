use Rattle.std.proofs.Common.{arith}
use Rattle.page_bitmap.proofs.Bits.{has_bit-zero, trailing_zeros-lowest}
use Rattle.page_bitmap.proofs.word.lowest_one.Goals as goal

pub returns-then-word-eq0-clause-none : goal.returns-then-word-eq0-clause-none
returns-then-word-eq0-clause-none c = λ k. rw c.if-word-eq0.true (has_bit-zero k)

pub returns-else-word-eq0-clause-one : goal.returns-else-word-eq0-clause-one
returns-else-word-eq0-clause-one c =
    let t = trailing_zeros-lowest c.args.word (omega arith) (omega arith) in (t.within, t.one)

pub returns-else-word-eq0-clause-lowest : goal.returns-else-word-eq0-clause-lowest
returns-else-word-eq0-clause-lowest c =
    let t = trailing_zeros-lowest c.args.word (omega arith) (omega arith) in t.lowest
