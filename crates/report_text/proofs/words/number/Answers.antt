use Rattle.std.proofs.Common.{arith}
use Rattle.report_text.proofs.Numbers.{no_number_of_64}
use Rattle.report_text.proofs.words.number.Goals as goal

pub returns-then-number-from : goal.returns-then-number-from
returns-then-number-from c = no_number_of_64 _ _ _ c.in_ok-number.ensures (omega arith)
