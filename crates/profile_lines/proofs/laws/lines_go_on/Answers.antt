use Rattle.profile_lines.proofs.Telling.{go-on}
use Rattle.profile_lines.proofs.laws.lines_go_on.Goals as goal

pub returns : goal.returns
returns c = go-on
