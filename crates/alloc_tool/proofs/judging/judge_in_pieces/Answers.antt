use Rattle.std.proofs.Common.{Err, ap}
use Rattle.alloc_tool.proofs.Checked.{checked_ok, checked_stop}
use Rattle.alloc_tool.proofs.judging.judge_in_pieces.Goals as goal

pub returns-in-Ok : goal.returns-in-Ok
returns-in-Ok g c =
    checked_ok g.S.Source.left g.S.Source.faults g.K.Sink.held g.K.Sink.faults g.E.Sink.held g.E.Sink.faults c.args.input.now c.check_in_pieces.new.input c.args.output.now c.say_ok.new.output c.args.errors.now c.say_ok.new.errors c.say_ok.result
    c.in-Ok.ensures.sound c.say_ok.ensures.status c.say_ok.ensures.answered c.say_ok.ensures.silent c.say_ok.ensures.write_fault c.say_ok.ensures.partly_written c.say_ok.ensures.told

pub returns-in-Err : goal.returns-in-Err
returns-in-Err g c =
    checked_stop g.S.Source.left g.S.Source.faults g.K.Sink.held g.K.Sink.faults g.E.Sink.held g.E.Sink.faults c.args.input.now c.check_in_pieces.new.input c.args.output.now c.args.errors.now c.refuse_pair.new.errors c.in-Err.stop c.refuse_pair.result
    c.in-Err.ensures.stopped (λ e. c.in-Err.ensures.cause.in_trace (ap Err e)) (λ e. c.in-Err.ensures.cause.in_report (ap Err e)) c.in-Err.ensures.broken_off c.refuse_pair.ensures.status c.refuse_pair.ensures.told
