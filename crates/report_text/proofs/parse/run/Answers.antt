use Rattle.report_text.proofs.Forms.{run_page, run_pages}
use Rattle.report_text.proofs.parse.run.Goals as goal

pub returns-in_err-page : goal.returns-in_err-page
returns-in_err-page c = rw c.from_residual-in_err-page.ensures (run_page _ _ _ c.in_ok-after.ensures c.in_err-page.ensures)

pub returns-in_err-short_last : goal.returns-in_err-short_last
returns-in_err-short_last c = rw c.from_residual-in_err-short_last.ensures (run_pages _ _ _ _ _ c.in_ok-after.ensures c.in_ok-page.ensures c.in_err-short_last.ensures)
