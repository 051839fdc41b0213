use Rattle.check_parallel.proofs.Answering.{if-ok}
use Rattle.check_parallel.proofs.settled.settle.Goals as goal

pub returns-clause-lasts : goal.returns-clause-lasts
returns-clause-lasts g c =
    let all = if-ok c.prepared-blank.result.1.1 c.in_ok-lasts.lasts _ c.in_ok-lasts.was c.prepared-blank.ensures.lasts in
    all c.args.report.now c.in_ok-items.items.items c.in_ok-items.ensures.settled.answers
