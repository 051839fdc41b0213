use Rattle.std.proofs.Common.{◌∙◌}
use Rattle.report_text.proofs.Numbers.{no_other_address}
use Rattle.report_text.proofs.words.address.Goals as goal

pub returns-then-ne : goal.returns-then-ne
returns-then-ne c = no_other_address _ c.as_slice.result.now c.new-digits.result c.in_ok-number.number c.in_ok-number.ensures c.new-digits.ensures (c.as_slice.ensures.text ∙ c.push_hexadecimal.ensures.text) c.if-ne.ensures
