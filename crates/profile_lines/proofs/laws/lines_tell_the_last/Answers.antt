use Rattle.profile_lines.proofs.Telling.{tell-last}
use Rattle.profile_lines.proofs.laws.lines_tell_the_last.Goals as goal

pub returns : goal.returns
returns c = tell-last
