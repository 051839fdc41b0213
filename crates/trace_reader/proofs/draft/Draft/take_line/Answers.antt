use Rattle.std.proofs.Common.{take}
use Rattle.std.proofs.lemmas.Result.{err_from_is_err_and}
use Rattle.trace_reader.specs.declared.statement.Statement.TheVariants.{Alloc, Mark}
use Rattle.trace_reader.specs.Says.{Says}
use Rattle.trace_reader.proofs.Saying.{said_is}
use Rattle.trace_reader.proofs.draft.Draft.take_line.Goals as goal

pub returns-in_err-take_event-clause-fault : goal.returns-in_err-take_event-clause-fault
returns-in_err-take_event-clause-fault c =
    let line = take c.args.end c.args.ahead.now in
    let says : Says line (Alloc c.form.result) = rw c.form.ensures c.in-Some.ensures in
    let p = err_from_is_err_and c.from_residual.result c.from_residual.ensures.1 in
    rw (p.1, p.2, said_is line (Alloc c.form.result) says) c.in_err-take_event.ensures.fault

pub returns-in-Some-clause-took : goal.returns-in-Some-clause-took
returns-in-Some-clause-took c =
    let line = take c.args.end c.args.ahead.now in
    let says : Says line (Alloc c.form.result) = rw c.form.ensures c.in-Some.ensures in
    rw (said_is line (Alloc c.form.result) says) c.in_ok-take_event.ensures.took

pub returns-in_err-take_mark-clause-fault : goal.returns-in_err-take_mark-clause-fault
returns-in_err-take_mark-clause-fault c =
    let line = take c.args.end c.args.ahead.now in
    let says : Says line (Mark c.from.result c.from-in-Some-short_mark.result) = rw (c.from.ensures, c.from-in-Some-short_mark.ensures) c.in-Some-short_mark.ensures in
    let p = err_from_is_err_and c.from_residual-in_err-take_mark.result c.from_residual-in_err-take_mark.ensures.1 in
    rw (p.1, p.2, said_is line (Mark c.from.result c.from-in-Some-short_mark.result) says) c.in_err-take_mark.ensures.fault

pub returns-in-Some-short_mark-clause-took : goal.returns-in-Some-short_mark-clause-took
returns-in-Some-short_mark-clause-took c =
    let line = take c.args.end c.args.ahead.now in
    let says : Says line (Mark c.from.result c.from-in-Some-short_mark.result) = rw (c.from.ensures, c.from-in-Some-short_mark.ensures) c.in-Some-short_mark.ensures in
    rw (said_is line (Mark c.from.result c.from-in-Some-short_mark.result) says) c.in_ok-take_mark.ensures.took
