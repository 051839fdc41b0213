use Rattle.report_text.proofs.Forms.{sweep_freed, sweep_kept, sweep_page}
use Rattle.report_text.proofs.parse.sweep_of.Goals as goal

pub returns-in_err-page : goal.returns-in_err-page
returns-in_err-page c = rw c.from_residual-in_err-page.ensures (sweep_page _ _ _ _ c.in_ok-after.ensures c.in_ok-cycle.ensures c.in_err-page.ensures)

pub returns-in_err-kept : goal.returns-in_err-kept
returns-in_err-kept c = rw c.from_residual-in_err-kept.ensures (sweep_kept _ _ _ _ _ _ c.in_ok-after.ensures c.in_ok-cycle.ensures c.in_ok-page.ensures c.in_err-kept.ensures)

pub returns-in_err-short_last : goal.returns-in_err-short_last
returns-in_err-short_last c = rw c.from_residual-in_err-short_last.ensures
    (sweep_freed _ _ _ _ _ _ _ _ c.in_ok-after.ensures c.in_ok-cycle.ensures c.in_ok-page.ensures c.in_ok-kept.ensures c.in_err-short_last.ensures)
