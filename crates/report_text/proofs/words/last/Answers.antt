use Rattle.std.proofs.Common.{sym}
use Rattle.trace_reader.proofs.Forms.{not_empty}
use Rattle.report_text.proofs.Numbers.{no_end}
use Rattle.report_text.proofs.words.last.Goals as goal

pub returns-then-not-is_empty : goal.returns-then-not-is_empty
returns-then-not-is_empty c = no_end _ _ _ c.in_ok-number.ensures.1 (not_empty _ (sym c.if-not-is_empty.ensures))
