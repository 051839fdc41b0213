use Rattle.std.proofs.Common.{arith}
use Rattle.heap_text.proofs.Parts.{no_large_stack}
use Rattle.heap_text.proofs.words.stack_of.Goals as goal

pub returns-then-number-from : goal.returns-then-number-from
returns-then-number-from c = no_large_stack _ _ c.in_ok-number.ensures (omega arith)
