use Rattle.std.proofs.Common.{rules}
use Rattle.heap_text.proofs.Parts.{no_top_name, no_top_mark, no_top_rate, no_top_end}
use Rattle.heap_text.proofs.words.top_of.Goals as goal

pub returns-in_err-after : goal.returns-in_err-after
returns-in_err-after c = rw c.from_residual.ensures (no_top_name _ c.in_err-after.ensures)

pub returns-in_err-after-2 : goal.returns-in_err-after-2
returns-in_err-after-2 c = rw c.from_residual-in_err-after-2.ensures (no_top_mark _ _ _ _ c.in_ok-after.ensures c.in_ok-sums.ensures c.in_err-after-2.ensures)

pub returns-in_err-twice : goal.returns-in_err-twice
returns-in_err-twice c = rw c.from_residual-in_err-twice.ensures (no_top_rate _ _ _ _ _ c.in_ok-after.ensures c.in_ok-sums.ensures c.in_ok-after-2.ensures c.in_err-twice.ensures)

pub returns-then-not-is_empty : goal.returns-then-not-is_empty
returns-then-not-is_empty c = no_top_end _ _ _ _ _ _ _ c.in_ok-after.ensures c.in_ok-sums.ensures c.in_ok-after-2.ensures c.in_ok-twice.ensures (search rules)
