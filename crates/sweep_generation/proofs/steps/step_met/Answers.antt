use Rattle.sweep_laws.proofs.StepsKept.{steps_owned}
use Rattle.sweep_laws.proofs.MemoryKept.{steps_room, steps_tidy, steps_space, steps_memory}
use Rattle.sweep_generation.proofs.steps.step_met.Goals as goal

pub returns-clause-owned : goal.returns-clause-owned
returns-clause-owned c = steps_owned c.args.core.now c.step_usual_met.new.core c.args.mv c.step_usual_met.result c.step_usual_met.ensures

pub returns-clause-tidy : goal.returns-clause-tidy
returns-clause-tidy c = steps_tidy c.args.core.now c.step_usual_met.new.core c.args.mv c.step_usual_met.result c.step_usual_met.ensures

pub returns-clause-room : goal.returns-clause-room
returns-clause-room c = steps_room c.args.core.now c.step_usual_met.new.core c.args.mv c.step_usual_met.result c.step_usual_met.ensures

pub returns-clause-space : goal.returns-clause-space
returns-clause-space c = steps_space c.args.core.now c.step_usual_met.new.core c.args.mv c.step_usual_met.result c.step_usual_met.ensures

pub returns-clause-memory : goal.returns-clause-memory
returns-clause-memory c = steps_memory c.args.core.now c.step_usual_met.new.core c.args.mv c.step_usual_met.result c.step_usual_met.ensures
