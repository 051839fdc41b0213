use Rattle.std.proofs.Common.{◌∙◌, ap, ◌+◌, ◌*◌}
use Rattle.report_text.proofs.Numbers.{all_digits, more_digits, no_digit, too_large}
use Rattle.report_text.proofs.words.hexadecimal.Goals as goal

pub returns-in_err-digit : goal.returns-in_err-digit
returns-in_err-digit c = rw c.from_residual.ensures (no_digit _ c.loop-byte.byte-index _ c.loop-byte-test.true c.from.ensures c.in_err-digit.ensures.value)

pub returns-then-value : goal.returns-then-value
returns-then-value c = too_large _ c.loop-byte.byte-index _ c.loop-byte-test.true c.loop-byte.invariant c.if-value.true

pub loop-byte-preserved : goal.loop-byte-preserved
loop-byte-preserved c = ap (λ d. 16 * c.loop-byte.value + d) c.from-in-loop-byte.ensures ∙ more_digits _ c.loop-byte.byte-index _ _ _ c.loop-byte-test.true c.loop-byte.invariant c.from.ensures c.in_ok-digit.ensures.value.1

pub returns : goal.returns
returns c = all_digits _ c.loop-byte.byte-index _ c.loop-byte-test.false c.loop-byte.invariant
