use Rattle.report_text.proofs.Forms.{cut_class, cut_page, cut_pages}
use Rattle.report_text.proofs.parse.cut_out.Goals as goal

pub returns-in_err-page : goal.returns-in_err-page
returns-in_err-page c = rw c.from_residual-in_err-page.ensures (cut_page _ _ _ _ c.in_ok-after.ensures c.in_ok-proc.ensures c.in_err-page.ensures)

pub returns-in_err-pages : goal.returns-in_err-pages
returns-in_err-pages c = rw c.from_residual-in_err-pages.ensures (cut_pages _ _ _ _ _ _ c.in_ok-after.ensures c.in_ok-proc.ensures c.in_ok-page.ensures c.in_err-pages.ensures)

pub returns-in_err-byte_last : goal.returns-in_err-byte_last
returns-in_err-byte_last c = rw c.from_residual-in_err-byte_last.ensures
    (cut_class _ _ _ _ _ _ _ _ c.in_ok-after.ensures c.in_ok-proc.ensures c.in_ok-page.ensures c.in_ok-pages.ensures c.in_err-byte_last.ensures)
