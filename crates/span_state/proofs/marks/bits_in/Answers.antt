use Rattle.std.proofs.Common.{arith}
use Rattle.std.proofs.lemmas.Nat.{ones_le_self}
use Rattle.span_state.proofs.marks.bits_in.Goals as goal

pub returns-then-word-eq0 : goal.returns-then-word-eq0
returns-then-word-eq0 c = let none = ones_le_self 0 in rw c.if-word-eq0.true (omega arith)
