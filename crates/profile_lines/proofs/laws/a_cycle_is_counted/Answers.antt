use Rattle.profile_lines.proofs.Publishing.{cycle-counted}
use Rattle.profile_lines.proofs.laws.a_cycle_is_counted.Goals as goal

pub returns : goal.returns
returns c = cycle-counted
