use Rattle.run_laws.proofs.EachMove.{move-shows}
use Rattle.run_laws.proofs.a_move_keeps_the_cycle_under_way.Goals as goal

pub returns : goal.returns
returns s = λ region target c e move next now blocks o met on. move-shows region target c e now blocks o move next met on
