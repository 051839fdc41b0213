use Rattle.std.proofs.Common.{[], ◌∷◌, refl}
use Rattle.heap_run.proofs.Queued.{one-part}
use Rattle.heap_run.proofs.queues.shares_of.Goals as goal

pub returns-then-procs-eq1-clause-shares : goal.returns-then-procs-eq1-clause-shares
returns-then-procs-eq1-clause-shares g c w =
    one-part c.args.events.now c.args.items.now (c.args.items.now ∷ []) c.args.procs c.if-procs-eq1.true c.requires.below c.requires.sizes refl w
