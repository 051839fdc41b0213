use Rattle.report_text.proofs.Forms.{class_frees, class_mallocs}
use Rattle.report_text.proofs.parse.class_of.Goals as goal

pub returns-in_err-mallocs : goal.returns-in_err-mallocs
returns-in_err-mallocs c = rw c.from_residual-in_err-mallocs.ensures (class_mallocs _ _ _ _ c.in_ok-after.ensures c.in_ok-class.ensures c.in_err-mallocs.ensures)

pub returns-in_err-last : goal.returns-in_err-last
returns-in_err-last c = rw c.from_residual-in_err-last.ensures (class_frees _ _ _ _ _ _ c.in_ok-after.ensures c.in_ok-class.ensures c.in_ok-mallocs.ensures c.in_err-last.ensures)
