use Rattle.std.proofs.Common.{◌≡◌, ap, refl, sym, ◌∙◌, Err}
use Rattle.trace_reader.specs.declared.fault.TraceFault.TheVariants.{NoMemory}
use Rattle.cycle_history.specs.Text.{report_text}
use Rattle.commands.specs.Texts.{fault_status}
use Rattle.alloc_tool.specs.Top.{IsReportText}
use Rattle.alloc_tool.proofs.Faults.{is_of_trace}
use Rattle.alloc_tool.proofs.Outcomes.{profile_rises, refused_outcome, written_outcome}
use Rattle.alloc_tool.proofs.top.run_by.Goals as goal

pub write_report-requires-clause-profile : goal.write_report-requires-clause-profile
write_report-requires-clause-profile g c = profile_rises c.in-Ok.trace c.in-Ok-run_trace.ran.report c.in-Ok-run_trace.ensures.sound

pub returns-in-Err-clause-outcome : goal.returns-in-Err-clause-outcome
returns-in-Err-clause-outcome g c =
    refused_outcome (IsReportText c.args.options.each) g.S.Source.left g.S.Source.faults g.K.Sink.held g.K.Sink.faults g.E.Sink.held g.E.Sink.faults c.args.input.now c.read_whole.new.input c.args.output.now c.args.output.now c.args.errors.now c.refuse_trace.new.errors
    c.in-Err.fault c.refuse_trace.result c.refuse_trace.ensures.status refl c.refuse_trace.ensures.told c.in-Err.ensures.refused (λ e. c.in-Err.ensures.cause.fault (ap Err e)) (λ e. c.in-Err.ensures.broken_off (ap Err e))

pub returns-in_default-clause-outcome : goal.returns-in_default-clause-outcome
returns-in_default-clause-outcome g c =
    refused_outcome (IsReportText c.args.options.each) g.S.Source.left g.S.Source.faults g.K.Sink.held g.K.Sink.faults g.E.Sink.held g.E.Sink.faults c.args.input.now c.read_whole.new.input c.args.output.now c.args.output.now c.args.errors.now c.refuse_trace-in_default.new.errors
    NoMemory c.refuse_trace-in_default.result c.refuse_trace-in_default.ensures.status refl c.refuse_trace-in_default.ensures.told (λ of. absurd of) (λ e. absurd cc) (λ e. absurd cc)

pub returns-clause-outcome : goal.returns-clause-outcome
returns-clause-outcome g c =
    written_outcome (IsReportText c.args.options.each) g.S.Source.left g.S.Source.faults g.K.Sink.held g.K.Sink.faults g.E.Sink.held g.E.Sink.faults c.args.input.now c.read_whole.new.input c.args.output.now c.write_report.new.out c.args.errors.now c.stop_writing.new.errors
    c.in-Ok.trace (report_text c.in-Ok-run_trace.ran.report) c.stop_writing.result c.stop_writing.ensures.status c.in-Ok.ensures.trace (c.in-Ok-run_trace.ran.report, record { sound = c.in-Ok-run_trace.ensures.sound; form = c.in-Ok-run_trace.ensures.form }, refl)
    c.in-Err-write_report.ensures.front c.in-Err-write_report.ensures.cause.failed c.stop_writing.ensures.told

pub returns-in-Err-clause-complete : goal.returns-in-Err-clause-complete
returns-in-Err-clause-complete g c = λ bytes t told spells three.
    let status : fault_status c.in-Err.fault ≡ 3 = sym c.refuse_trace.ensures.status ∙ three in
    c.in-Err.ensures.complete bytes t told spells (is_of_trace c.in-Err.fault status)
