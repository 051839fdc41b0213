use Rattle.profile_lines.proofs.Telling.{few-shown}
use Rattle.profile_lines.proofs.laws.shown_numbers_are_few.Goals as goal

pub returns : goal.returns
returns c = few-shown
