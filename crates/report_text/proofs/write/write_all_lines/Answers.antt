use Rattle.std.proofs.lemmas.Result.{on_ok_weaker}
use Rattle.report_text.proofs.Whole.{answers_fault, journal_fault, closing_fault, flush_fault, flushed}
use Rattle.report_text.proofs.write.write_all_lines.Goals as goal

pub returns-in_err-put_answers-clause-front : goal.returns-in_err-put_answers-clause-front
returns-in_err-put_answers-clause-front g c = answers_fault c.args.report.now _ _ _ _ c.requires (rw c.as_slice.ensures at c.in_err-put_answers.ensures.err)

pub returns-in_err-put_lines-clause-front : goal.returns-in_err-put_lines-clause-front
returns-in_err-put_lines-clause-front g c =
    journal_fault c.args.report.now _ _ _ _ _ _ c.requires (rw c.as_slice.ensures at c.in_ok-put_answers.ensures.ok) (rw c.as_slice-2.ensures at c.in_err-put_lines.ensures.err)

pub returns-in_err-put_closing-clause-front : goal.returns-in_err-put_closing-clause-front
returns-in_err-put_closing-clause-front g c =
    closing_fault c.args.report.now _ _ _ _ _ _ _ _ c.requires (rw c.as_slice.ensures at c.in_ok-put_answers.ensures.ok) (rw c.as_slice-2.ensures at c.in_ok-put_lines.ensures.ok) c.in_err-put_closing.ensures.err

pub returns-clause-front : goal.returns-clause-front
returns-clause-front g c =
    flush_fault c.args.report.now _ _ _ _ _ _ _ _ _ _ c.requires (rw c.as_slice.ensures at c.in_ok-put_answers.ensures.ok) (rw c.as_slice-2.ensures at c.in_ok-put_lines.ensures.ok) c.in_ok-put_closing.ensures.ok c.flush.ensures.sends

pub returns-clause-ok : goal.returns-clause-ok
returns-clause-ok g c = on_ok_weaker c.flush.result (λ empty.
    flushed c.args.report.now _ _ _ _ _ _ _ _ _ _ c.requires (rw c.as_slice.ensures at c.in_ok-put_answers.ensures.ok) (rw c.as_slice-2.ensures at c.in_ok-put_lines.ensures.ok) c.in_ok-put_closing.ensures.ok c.flush.ensures.sends empty) c.flush.ensures.ok
