use Rattle.std.proofs.Common.{Bool, refl, subst}
use Rattle.trace_reader.specs.declared.fault.TraceFault.TheVariants.{NoMemory}
use Rattle.alloc_tool.specs.Outcome.{Outcome}
use Rattle.alloc_tool.specs.Top.{IsReportText}
use Rattle.alloc_tool.proofs.Outcomes.{refused_outcome}
use Rattle.alloc_tool.proofs.top.run.Goals as goal

pub returns-in-Ok-clause-outcome : goal.returns-in-Ok-clause-outcome
returns-in-Ok-clause-outcome g c = λ n each is.
    subst (λ (b : Bool). Outcome (IsReportText b) g.S.Source.left g.S.Source.faults g.K.Sink.held g.K.Sink.faults g.E.Sink.held g.E.Sink.faults c.args.input.now c.run_by.new.input c.args.output.now c.run_by.new.output c.args.errors.now c.run_by.new.errors
    c.run_by.result) (c.in-Ok.ensures.only n each is).1 c.run_by.ensures.outcome

pub returns-in-Err-clause-outcome : goal.returns-in-Err-clause-outcome
returns-in-Err-clause-outcome g c = λ n each is.
    refused_outcome (IsReportText each) g.S.Source.left g.S.Source.faults g.K.Sink.held g.K.Sink.faults g.E.Sink.held g.E.Sink.faults c.args.input.now c.args.input.now c.args.output.now c.args.output.now c.args.errors.now c.refuse_trace.new.errors
    NoMemory c.refuse_trace.result c.refuse_trace.ensures.status refl c.refuse_trace.ensures.told (λ of. absurd of) (λ e. absurd cc) (λ e. absurd cc)
