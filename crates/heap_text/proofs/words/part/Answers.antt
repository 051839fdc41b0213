use Rattle.std.proofs.Common.{arith}
use Rattle.heap_text.proofs.Parts.{no_part_of_64, no_text_behind}
use Rattle.heap_text.proofs.words.part.Goals as goal

pub returns-then-number-from : goal.returns-then-number-from
returns-then-number-from c = no_part_of_64 _ _ _ _ c.in_ok-number.ensures (omega arith)

pub returns-in_err-after : goal.returns-in_err-after
returns-in_err-after c = rw c.from_residual-in_err-after.ensures (no_text_behind _ _ _ _ c.in_ok-number.ensures c.in_err-after.ensures)
