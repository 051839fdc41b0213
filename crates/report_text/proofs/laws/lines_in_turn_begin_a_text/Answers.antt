use Rattle.report_text.proofs.Begun.{lines_begin}
use Rattle.report_text.proofs.laws.lines_in_turn_begin_a_text.Goals as goal

pub returns : goal.returns
returns c = lines_begin
