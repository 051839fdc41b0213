use Rattle.std.proofs.Common.{Err, ap, subst}
use Rattle.trace_reader.specs.declared.trace.Trace.{Trace}
use Rattle.alloc_tool.specs.Demo.{Demos}
use Rattle.alloc_tool.proofs.Demos.{failed_demo, shown_demo, spent_after, spent_demo}
use Rattle.alloc_tool.proofs.Unbroken.{made_plain, used_unbroken}
use Rattle.alloc_tool.proofs.demo.show_run.Goals as goal

pub returns-in_default : goal.returns-in_default
returns-in_default g c =
    spent_demo _ g.K.Sink.held g.K.Sink.faults g.E.Sink.held g.E.Sink.faults c.args.output.now c.args.errors.now c.refuse_trace.new.errors c.refuse_trace.result c.refuse_trace.ensures.status c.refuse_trace.ensures.told

pub returns-in_default-run_trace : goal.returns-in_default-run_trace
returns-in_default-run_trace g c =
    spent_demo _ g.K.Sink.held g.K.Sink.faults g.E.Sink.held g.E.Sink.faults c.args.output.now c.args.errors.now c.refuse_trace-in_default-run_trace.new.errors c.refuse_trace-in_default-run_trace.result
    c.refuse_trace-in_default-run_trace.ensures.status c.refuse_trace-in_default-run_trace.ensures.told

pub returns-in-Ok-write_summary : goal.returns-in-Ok-write_summary
returns-in-Ok-write_summary g c =
    subst (λ (t : Trace). Demos t g.K.Sink.held g.K.Sink.faults g.E.Sink.held g.E.Sink.faults c.args.output.now c.write_summary.new.out c.args.errors.now c.args.errors.now 0) c.in-Ok.ensures
    (shown_demo c.in-Ok.trace g.K.Sink.held g.K.Sink.faults g.E.Sink.held g.E.Sink.faults c.args.output.now c.write_summary.new.out c.args.errors.now c.in-Ok-run_trace.ran.report
    (record { sound = c.in-Ok-run_trace.ensures.sound; form = c.in-Ok-run_trace.ensures.form }) c.in-Ok-write_summary.ensures.ok)

pub returns-in-Err-Failed : goal.returns-in-Err-Failed
returns-in-Err-Failed g c =
    subst (λ (t : Trace). Demos t g.K.Sink.held g.K.Sink.faults g.E.Sink.held g.E.Sink.faults c.args.output.now c.write_summary.new.out c.args.errors.now c.stop_writing.new.errors c.stop_writing.result) c.in-Ok.ensures
    (failed_demo c.in-Ok.trace g.K.Sink.held g.K.Sink.faults g.E.Sink.held g.E.Sink.faults c.args.output.now c.write_summary.new.out c.args.errors.now c.stop_writing.new.errors c.in-Ok-run_trace.ran.report c.stop_writing.result
    c.stop_writing.ensures.status (record { sound = c.in-Ok-run_trace.ensures.sound; form = c.in-Ok-run_trace.ensures.form }) (c.in-Err-Failed.ensures.front (ap Err c.in-Err-Failed.field-0-is))
    (c.in-Err-Failed.ensures.cause (ap Err c.in-Err-Failed.field-0-is)) c.stop_writing.ensures.told)

pub returns-in-Err-NoMemory : goal.returns-in-Err-NoMemory
returns-in-Err-NoMemory g c =
    spent_after _ g.K.Sink.held g.K.Sink.faults g.E.Sink.held g.E.Sink.faults c.args.output.now c.write_summary.new.out c.args.errors.now c.refuse_trace-in-Err-NoMemory.new.errors c.refuse_trace-in-Err-NoMemory.result
    (c.in-Err-NoMemory.ensures.unwritten (λ e. absurd (let h = c.in-Err-NoMemory.field-0-is in cc))) c.refuse_trace-in-Err-NoMemory.ensures.status c.refuse_trace-in-Err-NoMemory.ensures.told

pub returns : goal.returns
returns g c = absurd (used_unbroken c.in-Ok.trace c.in-Ok-run_trace.ran.report c.in-Err-Broken.rule c.in-Err-Broken.line (c.in-Ok-run_trace.ensures.sound.plain (made_plain c.in-Ok.trace c.args.wanted.seed c.args.wanted.objects c.in-Ok.ensures)) (rw c.in-Err-Broken.field-0-is at c.in-Err-Broken.ensures.broken))
