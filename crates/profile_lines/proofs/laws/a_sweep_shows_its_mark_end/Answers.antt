use Rattle.profile_lines.proofs.Publishing.{sweep-shows}
use Rattle.profile_lines.proofs.laws.a_sweep_shows_its_mark_end.Goals as goal

pub returns : goal.returns
returns c = sweep-shows
