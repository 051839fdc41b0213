use Rattle.std.proofs.lemmas.Result.{on_ok_weaker}
use Rattle.trace_writer.proofs.Put.{cycles_fault, end_fault, flush_fault, flushed, head_fault}
use Rattle.trace_writer.proofs.print.print_lines.Goals as goal

pub returns-in_err-put_head-clause-front : goal.returns-in_err-put_head-clause-front
returns-in_err-put_head-clause-front g c = head_fault c.args.trace.now _ _ _ _ c.requires c.in_err-put_head.ensures.err

pub returns-in_err-put_cycles-clause-front : goal.returns-in_err-put_cycles-clause-front
returns-in_err-put_cycles-clause-front g c = cycles_fault c.args.trace.now _ _ _ _ _ _ c.requires c.in_ok-put_head.ensures.ok (rw c.as_slice.ensures at c.in_err-put_cycles.ensures.err)

pub returns-in_err-put-clause-front : goal.returns-in_err-put-clause-front
returns-in_err-put-clause-front g c =
    end_fault c.args.trace.now _ _ _ _ _ _ _ _ c.requires c.in_ok-put_head.ensures.ok (rw c.as_slice.ensures at c.in_ok-put_cycles.ensures.ok) c.in_err-put.ensures.err

pub returns-clause-front : goal.returns-clause-front
returns-clause-front g c =
    flush_fault c.args.trace.now _ _ _ _ _ _ _ _ _ _ c.requires c.in_ok-put_head.ensures.ok (rw c.as_slice.ensures at c.in_ok-put_cycles.ensures.ok) c.in_ok-put.ensures.ok c.flush.ensures.sends

pub returns-clause-ok : goal.returns-clause-ok
returns-clause-ok g c = on_ok_weaker c.flush.result (λ empty.
    flushed c.args.trace.now _ _ _ _ _ _ _ _ _ _ c.requires c.in_ok-put_head.ensures.ok (rw c.as_slice.ensures at c.in_ok-put_cycles.ensures.ok) c.in_ok-put.ensures.ok c.flush.ensures.sends empty) c.flush.ensures.ok
