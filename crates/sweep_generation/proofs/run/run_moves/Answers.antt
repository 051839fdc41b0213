use Rattle.std.proofs.Common.{List, subst}
use Rattle.sweep_laws.specs.declared.moves.Move.{Move}
use Rattle.sweep_laws.specs.Run.{Runs}
use Rattle.sweep_laws.proofs.StepsKept.{runs_owned, runs_once}
use Rattle.sweep_laws.proofs.MemoryKept.{runs_room, runs_tidy, runs_space, runs_memory}
use Rattle.sweep_generation.proofs.run.run_moves.Goals as goal

pub returns-clause-exact : goal.returns-clause-exact
returns-clause-exact c = subst (λ (moves : List Move). Runs c.args.core.now c.run_all.new.core moves c.run_all.result) c.as_slice.ensures c.run_all.ensures

pub returns-clause-owned : goal.returns-clause-owned
returns-clause-owned c = runs_owned _ _ _ _ (returns-clause-exact c)

pub returns-clause-tidy : goal.returns-clause-tidy
returns-clause-tidy c = runs_tidy _ _ _ _ (returns-clause-exact c)

pub returns-clause-room : goal.returns-clause-room
returns-clause-room c = runs_room _ _ _ _ (returns-clause-exact c)

pub returns-clause-space : goal.returns-clause-space
returns-clause-space c = runs_space _ _ _ _ (returns-clause-exact c)

pub returns-clause-memory : goal.returns-clause-memory
returns-clause-memory c = runs_memory _ _ _ _ (returns-clause-exact c)

pub returns-clause-once : goal.returns-clause-once
returns-clause-once c = runs_once _ _ _ _ (returns-clause-exact c)
