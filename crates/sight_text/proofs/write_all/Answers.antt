use Rattle.std.proofs.lemmas.Result.{on_ok_weaker}
use Rattle.sight_text.proofs.Writing.{flush_fault, flushed, put_fault}
use Rattle.sight_text.proofs.write_all.Goals as goal

pub returns-in_err-put_watchers-clause-front : goal.returns-in_err-put_watchers-clause-front
returns-in_err-put_watchers-clause-front g c = put_fault _ _ _ _ c.args.seen.now c.requires.empty c.in_err-put_watchers.ensures.err

pub returns-clause-front : goal.returns-clause-front
returns-clause-front g c = flush_fault _ _ _ _ _ _ c.args.seen.now c.requires.empty c.in_ok-put_watchers.ensures.ok c.flush.ensures.sends

pub returns-clause-ok : goal.returns-clause-ok
returns-clause-ok g c = on_ok_weaker c.flush.result (λ empty.
    flushed _ _ _ _ _ _ c.args.seen.now c.requires.empty c.in_ok-put_watchers.ensures.ok c.flush.ensures.sends empty) c.flush.ensures.ok
