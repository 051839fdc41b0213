use Rattle.heap_text.proofs.Parts.{no_line_four, no_line_mark, no_line_stack}
use Rattle.heap_text.proofs.words.line_of.Goals as goal

pub returns-in_err-numbers : goal.returns-in_err-numbers
returns-in_err-numbers c = rw c.from_residual.ensures (no_line_four _ c.in_err-numbers.ensures)

pub returns-in_err-after : goal.returns-in_err-after
returns-in_err-after c = rw c.from_residual-in_err-after.ensures (no_line_mark _ _ _ c.in_ok-numbers.ensures c.in_err-after.ensures)

pub returns-in_err-stack : goal.returns-in_err-stack
returns-in_err-stack c = rw c.from_residual-in_err-stack.ensures (no_line_stack _ _ _ _ c.in_ok-numbers.ensures c.in_ok-after.ensures c.in_err-stack.ensures)
