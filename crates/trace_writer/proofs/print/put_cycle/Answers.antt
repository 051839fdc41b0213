use Rattle.std.proofs.Common.{map}
use Rattle.std.proofs.lemmas.Result.{on_ok_weaker, on_err_weaker}
use Rattle.trace_reader.specs.Spelling.{alloc_of, line_for, mark_statements}
use Rattle.edge_io.proofs.Put.{on_err}
use Rattle.trace_writer.proofs.Put.{cycle_marked, cycle_marked_front, events_front}
use Rattle.trace_writer.proofs.print.put_cycle.Goals as goal

pub returns-in_err-put_events-clause-err : goal.returns-in_err-put_events-clause-err
returns-in_err-put_events-clause-err g c = on_err c.from_residual.result
    (events_front line_for _ _ _ _ (map alloc_of c.args.cycle.now.events) (mark_statements c.args.cycle.now.mark) (rw c.as_slice.ensures at c.in_err-put_events.ensures.err))

pub returns-in-Some-clause-ok : goal.returns-in-Some-clause-ok
returns-in-Some-clause-ok g c = on_ok_weaker c.put_mark_end.result
    (λ puts. cycle_marked _ _ _ _ _ _ c.args.cycle.now c.in-Some.end c.in-Some.is (rw c.as_slice.ensures at c.in_ok-put_events.ensures.ok) puts) c.put_mark_end.ensures.ok

pub returns-in-Some-clause-err : goal.returns-in-Some-clause-err
returns-in-Some-clause-err g c = on_err_weaker c.put_mark_end.result
    (λ front. cycle_marked_front _ _ _ _ _ _ c.args.cycle.now c.in-Some.end c.in-Some.is (rw c.as_slice.ensures at c.in_ok-put_events.ensures.ok) front) c.put_mark_end.ensures.err
