use Rattle.profile_lines.proofs.Telling.{stay}
use Rattle.profile_lines.proofs.laws.lines_stay.Goals as goal

pub returns : goal.returns
returns c = stay
