use Rattle.std.proofs.lemmas.Result.{on_ok_weaker}
use Rattle.heap_text.proofs.Writing.{flush_fault, flushed, lines_fault, top_fault}
use Rattle.heap_text.proofs.write.write_lines.Goals as goal

pub returns-in_err-put_top-clause-front : goal.returns-in_err-put_top-clause-front
returns-in_err-put_top-clause-front g c = top_fault c.args.heap.now _ _ _ _ c.requires.empty c.in_err-put_top.ensures.err

pub returns-in_err-put_lines-clause-front : goal.returns-in_err-put_lines-clause-front
returns-in_err-put_lines-clause-front g c =
    lines_fault c.args.heap.now _ _ _ _ _ _ c.requires.empty c.in_ok-put_top.ensures.ok (rw c.as_slice.ensures at c.in_err-put_lines.ensures.err)

pub returns-clause-front : goal.returns-clause-front
returns-clause-front g c =
    flush_fault c.args.heap.now _ _ _ _ _ _ _ _ c.requires.empty c.in_ok-put_top.ensures.ok (rw c.as_slice.ensures at c.in_ok-put_lines.ensures.ok) c.flush.ensures.sends

pub returns-clause-ok : goal.returns-clause-ok
returns-clause-ok g c = on_ok_weaker c.flush.result (λ empty.
    flushed c.args.heap.now _ _ _ _ _ _ _ _ c.requires.empty c.in_ok-put_top.ensures.ok (rw c.as_slice.ensures at c.in_ok-put_lines.ensures.ok) c.flush.ensures.sends empty) c.flush.ensures.ok
