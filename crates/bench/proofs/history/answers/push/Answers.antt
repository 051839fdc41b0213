use Rattle.std.proofs.Common.{length}
use Rattle.std.proofs.lemmas.Result.{on_ok_weaker}
use Rattle.bench.proofs.Filling.{filled-more}
use Rattle.bench.proofs.history.answers.push.Goals as goal

pub returns : goal.returns
returns c =
    on_ok_weaker c.push.result
    (λ is. filled-more c.args.trace.now c.args.answers.now c.push.new.self (length c.args.answers.now) c.args.event.now c.answer_of.result c.requires.filled c.requires.event is c.answer_of.ensures)
    c.push.ensures.ok
