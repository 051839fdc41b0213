use Rattle.profile_lines.proofs.Telling.{tell-each}
use Rattle.profile_lines.proofs.laws.lines_of_each_end.Goals as goal

pub returns : goal.returns
returns c = tell-each
