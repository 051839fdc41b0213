use Rattle.run_laws.proofs.Known.{move_knows}
use Rattle.run_laws.proofs.a_move_keeps_which_lives_are_known.Goals as goal

pub returns : goal.returns
returns s = λ c e move next now on. move_knows c e now move next on
