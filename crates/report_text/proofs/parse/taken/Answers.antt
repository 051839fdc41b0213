use Rattle.report_text.proofs.Forms.{taken_class, taken_pages}
use Rattle.report_text.proofs.parse.taken.Goals as goal

pub returns-in_err-pages : goal.returns-in_err-pages
returns-in_err-pages c = rw c.from_residual-in_err-pages.ensures (taken_pages _ _ _ _ c.in_ok-after.ensures c.in_ok-page.ensures c.in_err-pages.ensures)

pub returns-in_err-byte_last : goal.returns-in_err-byte_last
returns-in_err-byte_last c = rw c.from_residual-in_err-byte_last.ensures (taken_class _ _ _ _ _ _ c.in_ok-after.ensures c.in_ok-page.ensures c.in_ok-pages.ensures c.in_err-byte_last.ensures)
