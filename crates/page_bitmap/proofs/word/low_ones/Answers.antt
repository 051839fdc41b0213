use Rattle.std.proofs.Common.{arith}
use Rattle.page_bitmap.proofs.Bits.{trailing_ones-low}
use Rattle.page_bitmap.proofs.word.low_ones.Goals as goal

pub returns : goal.returns
returns c = rw c.trailing_ones.ensures (trailing_ones-low c.args.word (omega arith))
