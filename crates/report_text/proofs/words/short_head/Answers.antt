use Rattle.std.proofs.Common.{◌^◌, arith}
use Rattle.report_text.proofs.Numbers.{no_smaller_head}
use Rattle.report_text.proofs.words.short_head.Goals as goal

pub returns-then-number-from : goal.returns-then-number-from
returns-then-number-from c = no_smaller_head (2 ^ 32) _ _ _ (omega arith) c.in_ok-number.ensures (omega arith)
