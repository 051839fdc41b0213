use Rattle.std.proofs.Common.{◌∙◌}
use Rattle.heap_run.proofs.Queued.{answers-self}
use Rattle.heap_run.proofs.queues.queues_of.Goals as goal

pub returns-clause-queues : goal.returns-clause-queues
returns-clause-queues c w = c.in_ok-shares_of.ensures.shares w ∙ answers-self w c.args.events.now
