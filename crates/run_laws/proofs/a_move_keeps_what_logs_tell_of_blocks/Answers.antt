use Rattle.run_laws.proofs.BlockPulls.{move_blocks}
use Rattle.run_laws.proofs.a_move_keeps_what_logs_tell_of_blocks.Goals as goal

pub returns : goal.returns
returns s = λ c e move next now o met on. move_blocks c e now o move next met on
