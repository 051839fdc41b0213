use Rattle.std.proofs.Common.{◌≡◌, ap, refl, sym, ◌∙◌, Err, length, arith, ◌++◌}
use Rattle.trace_reader.specs.declared.fault.TraceFault.TheVariants.{NoMemory}
use Rattle.cycle_history.specs.Text.{report_text}
use Rattle.sight_text.specs.Text.{seen_text}
use Rattle.commands.specs.Texts.{fault_status}
use Rattle.alloc_tool.specs.Watch.{IsWatchText}
use Rattle.alloc_tool.proofs.Faults.{is_of_trace}
use Rattle.alloc_tool.proofs.Outcomes.{answered_outcome, profile_rises, refused_outcome, seen_count, written_outcome}
use Rattle.alloc_tool.proofs.watch.watch.Goals as goal

pub write_seen-requires-clause-profile : goal.write_seen-requires-clause-profile
write_seen-requires-clause-profile g c = profile_rises c.in-Ok.trace c.in-Ok-run_watched.watched.ran.report c.in-Ok-run_watched.ensures.sound

pub returns-in-Err-clause-outcome : goal.returns-in-Err-clause-outcome
returns-in-Err-clause-outcome g c =
    refused_outcome (IsWatchText c.args.readers) g.S.Source.left g.S.Source.faults g.K.Sink.held g.K.Sink.faults g.E.Sink.held g.E.Sink.faults c.args.input.now c.read_whole.new.input c.args.output.now c.args.output.now c.args.errors.now c.refuse_trace.new.errors
    c.in-Err.fault c.refuse_trace.result c.refuse_trace.ensures.status refl c.refuse_trace.ensures.told c.in-Err.ensures.refused (λ e. c.in-Err.ensures.cause.fault (ap Err e)) (λ e. c.in-Err.ensures.broken_off (ap Err e))

pub returns-in_default-clause-outcome : goal.returns-in_default-clause-outcome
returns-in_default-clause-outcome g c =
    refused_outcome (IsWatchText c.args.readers) g.S.Source.left g.S.Source.faults g.K.Sink.held g.K.Sink.faults g.E.Sink.held g.E.Sink.faults c.args.input.now c.read_whole.new.input c.args.output.now c.args.output.now c.args.errors.now c.refuse_trace-in_default.new.errors
    NoMemory c.refuse_trace-in_default.result c.refuse_trace-in_default.ensures.status refl c.refuse_trace-in_default.ensures.told (λ of. absurd of) (λ e. absurd cc) (λ e. absurd cc)

pub returns-in-Err-clause-complete : goal.returns-in-Err-clause-complete
returns-in-Err-clause-complete g c = λ bytes t told spells three.
    let status : fault_status c.in-Err.fault ≡ 3 = sym c.refuse_trace.ensures.status ∙ three in
    c.in-Err.ensures.complete bytes t told spells (is_of_trace c.in-Err.fault status)

pub write_seen-requires-clause-few : goal.write_seen-requires-clause-few
write_seen-requires-clause-few g c =
    let count = seen_count c.in-Ok.trace c.args.readers c.in-Ok-run_watched.watched.ran.report c.in-Ok-run_watched.watched.seen c.in-Ok-run_watched.ensures.seen in
    let few = c.requires.few in
    let same = ap length c.as_slice.ensures in
    omega arith

pub returns-in-Ok-write_seen-clause-outcome : goal.returns-in-Ok-write_seen-clause-outcome
returns-in-Ok-write_seen-clause-outcome g c =
    answered_outcome (IsWatchText c.args.readers) g.S.Source.left g.S.Source.faults g.K.Sink.held g.K.Sink.faults g.E.Sink.held g.E.Sink.faults c.args.input.now c.read_whole.new.input c.args.output.now c.write_seen.new.output c.args.errors.now c.args.errors.now
    c.in-Ok.trace (report_text c.in-Ok-run_watched.watched.ran.report ++ seen_text 0 c.in-Ok-run_watched.watched.seen) c.in-Ok.ensures.trace
    (c.in-Ok-run_watched.watched.ran.report, c.in-Ok-run_watched.watched.seen, record { sound = c.in-Ok-run_watched.ensures.sound; form = c.in-Ok-run_watched.ensures.form }, c.in-Ok-run_watched.ensures.seen, refl)
    (rw c.as_slice.ensures at c.in-Ok-write_seen.ensures.ok) refl

pub returns-clause-outcome : goal.returns-clause-outcome
returns-clause-outcome g c =
    written_outcome (IsWatchText c.args.readers) g.S.Source.left g.S.Source.faults g.K.Sink.held g.K.Sink.faults g.E.Sink.held g.E.Sink.faults c.args.input.now c.read_whole.new.input c.args.output.now c.write_seen.new.output c.args.errors.now c.stop_writing.new.errors
    c.in-Ok.trace (report_text c.in-Ok-run_watched.watched.ran.report ++ seen_text 0 c.in-Ok-run_watched.watched.seen) c.stop_writing.result c.stop_writing.ensures.status c.in-Ok.ensures.trace
    (c.in-Ok-run_watched.watched.ran.report, c.in-Ok-run_watched.watched.seen, record { sound = c.in-Ok-run_watched.ensures.sound; form = c.in-Ok-run_watched.ensures.form }, c.in-Ok-run_watched.ensures.seen, refl)
    (rw c.as_slice.ensures at c.in-Err-write_seen.ensures.front) c.in-Err-write_seen.ensures.cause.failed c.stop_writing.ensures.told
