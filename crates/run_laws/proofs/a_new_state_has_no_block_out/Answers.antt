use Rattle.run_laws.proofs.BlockPulls.{start_blocks}
use Rattle.run_laws.proofs.a_new_state_has_no_block_out.Goals as goal

pub returns : goal.returns
returns s = λ region workers. start_blocks region workers
