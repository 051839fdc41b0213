use Rattle.std.proofs.Common.{Err, ap}
use Rattle.commands.proofs.HeapWays.{heaped_ok, heaped_stop}
use Rattle.commands.proofs.heap.show_heap.Goals as goal

pub returns-in-Ok : goal.returns-in-Ok
returns-in-Ok g c =
    heaped_ok g.S.Source.left g.S.Source.faults g.K.Sink.held g.K.Sink.faults g.E.Sink.held g.E.Sink.faults c.args.input.now c.heap_in.new.input c.args.output.now c.write_text.new.output c.args.errors.now c.write_text.new.errors c.in-Ok.heap
    c.write_text.result c.in-Ok.ensures.makes c.write_text.ensures.status c.write_text.ensures.answered c.write_text.ensures.silent c.write_text.ensures.write_fault c.write_text.ensures.partly_written c.write_text.ensures.told

pub returns-in-Err : goal.returns-in-Err
returns-in-Err g c =
    heaped_stop g.S.Source.left g.S.Source.faults g.K.Sink.held g.K.Sink.faults g.E.Sink.held g.E.Sink.faults c.args.input.now c.heap_in.new.input c.args.output.now c.args.errors.now c.refuse_pair.new.errors c.in-Err.stop c.refuse_pair.result
    c.in-Err.ensures.stopped (λ e. c.in-Err.ensures.cause.in_trace (ap Err e)) (λ e. c.in-Err.ensures.cause.in_report (ap Err e)) c.in-Err.ensures.broken_off c.refuse_pair.ensures.status c.refuse_pair.ensures.told
