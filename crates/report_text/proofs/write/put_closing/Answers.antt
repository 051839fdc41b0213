use Rattle.edge_io.proofs.Put.{on_err}
use Rattle.report_text.proofs.Whole.{sweeps_fault, totals_fault, profile_fault, end_fault, closing_put}
use Rattle.report_text.proofs.write.put_closing.Goals as goal

pub returns-in_err-put_lines-clause-err : goal.returns-in_err-put_lines-clause-err
returns-in_err-put_lines-clause-err g c = on_err c.from_residual.result
    (sweeps_fault c.args.report.now _ _ _ _ (rw c.as_slice.ensures at c.in_err-put_lines.ensures.err))

pub returns-in_err-put_lines-2-clause-err : goal.returns-in_err-put_lines-2-clause-err
returns-in_err-put_lines-2-clause-err g c = on_err c.from_residual-in_err-put_lines-2.result
    (totals_fault c.args.report.now _ _ _ _ _ _ (rw c.as_slice.ensures at c.in_ok-put_lines.ensures.ok) (rw c.as_slice-2.ensures at c.in_err-put_lines-2.ensures.err))

pub returns-in_err-put_lines-3-clause-err : goal.returns-in_err-put_lines-3-clause-err
returns-in_err-put_lines-3-clause-err g c = on_err c.from_residual-in_err-put_lines-3.result
    (profile_fault c.args.report.now _ _ _ _ _ _ _ _ (rw c.as_slice.ensures at c.in_ok-put_lines.ensures.ok) (rw c.as_slice-2.ensures at c.in_ok-put_lines-2.ensures.ok)
    (rw c.as_slice-3.ensures at c.in_err-put_lines-3.ensures.err))

pub returns-in_err-put-clause-err : goal.returns-in_err-put-clause-err
returns-in_err-put-clause-err g c = on_err c.from_residual-in_err-put.result
    (end_fault c.args.report.now _ _ _ _ _ _ _ _ _ _ (rw c.as_slice.ensures at c.in_ok-put_lines.ensures.ok) (rw c.as_slice-2.ensures at c.in_ok-put_lines-2.ensures.ok)
    (rw c.as_slice-3.ensures at c.in_ok-put_lines-3.ensures.ok) c.in_err-put.ensures.err)

pub returns-clause-ok : goal.returns-clause-ok
returns-clause-ok g c = closing_put c.args.report.now _ _ _ _ _ _ _ _ _ _ (rw c.as_slice.ensures at c.in_ok-put_lines.ensures.ok) (rw c.as_slice-2.ensures at c.in_ok-put_lines-2.ensures.ok)
    (rw c.as_slice-3.ensures at c.in_ok-put_lines-3.ensures.ok) c.in_ok-put.ensures.ok
