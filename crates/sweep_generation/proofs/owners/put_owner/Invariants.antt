use Rattle.std.proofs.Common.{◌≡◌}
use Rattle.sweep_laws.specs.Lists.{put_run}
use Rattle.sweep_generation.proofs.owners.put_owner.Given as goal

abbrev pub invariant-loop-k : goal.invariant-loop-k
invariant-loop-k l = l.owners ≡ put_run l.initial.owners l.page l.k l.owner
