use Rattle.trace_reader.proofs.Digits.{behind_text}
use Rattle.trace_reader.proofs.words.field.Goals as goal

pub returns : goal.returns
returns c = behind_text _ _ _ _ c.in_ok-after.ensures c.number.ensures
