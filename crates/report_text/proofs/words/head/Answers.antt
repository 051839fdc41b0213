use Rattle.report_text.proofs.Numbers.{no_blank}
use Rattle.report_text.proofs.words.head.Goals as goal

pub returns-in_err-after : goal.returns-in_err-after
returns-in_err-after c = rw c.from_residual-in_err-after.ensures (no_blank _ _ _ c.in_ok-number.ensures.1 c.in_err-after.ensures)
