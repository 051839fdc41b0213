use Rattle.report_text.proofs.Forms.{block_page, block_pages, block_proc}
use Rattle.report_text.proofs.parse.block.Goals as goal

pub returns-in_err-proc : goal.returns-in_err-proc
returns-in_err-proc c = rw c.from_residual-in_err-proc.ensures (block_proc _ _ _ c.in_ok-after.ensures c.in_err-proc.ensures)

pub returns-in_err-page : goal.returns-in_err-page
returns-in_err-page c = rw c.from_residual-in_err-page.ensures (block_page _ _ _ _ _ c.in_ok-after.ensures c.in_ok-proc.ensures c.in_err-page.ensures)

pub returns-in_err-short_last : goal.returns-in_err-short_last
returns-in_err-short_last c = rw c.from_residual-in_err-short_last.ensures
    (block_pages _ _ _ _ _ _ _ c.in_ok-after.ensures c.in_ok-proc.ensures c.in_ok-page.ensures c.in_err-short_last.ensures)
