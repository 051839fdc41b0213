use Rattle.std.proofs.Common.{arith}
use Rattle.page_bitmap.proofs.Bits.{leading_ones-high}
use Rattle.page_bitmap.proofs.word.high_ones.Goals as goal

pub returns : goal.returns
returns c = rw c.leading_ones.ensures (leading_ones-high c.args.word (omega arith))
