use Rattle.profile_lines.proofs.Publishing.{mark-end-begins}
use Rattle.profile_lines.proofs.laws.a_mark_end_begins_counting.Goals as goal

pub returns : goal.returns
returns c = mark-end-begins
