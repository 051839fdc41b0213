use Rattle.std.proofs.Common.{◌≡◌, ◌++◌, decimal, drop, arith, rules}
use Rattle.std.proofs.lemmas.List.{take_rest}
use Rattle.trace_reader.specs.Words.{NoDigitFirst}
use Rattle.trace_reader.proofs.Digits.{ends_at, no_digit_at, no_number, nothing_at}
use Rattle.trace_reader.proofs.words.number.Goals as goal
use Rattle.trace_reader.proofs.words.number.Goals.{else-end-bytes-via-then-end-bytes+else-is_ascii_digit, else-end-bytes-via-else-end-bytes}

pub returns-in_err-value : goal.returns-in_err-value
returns-in_err-value c = (let none = no_number c.args.bytes.now c.in_err-value.ensures in search (rules, none))

pub returns-then-is_ascii_digit : goal.returns-then-is_ascii_digit
returns-then-is_ascii_digit c =
    let whole : c.args.bytes.now ≡ decimal c.in_ok-value.value ++ drop c.in_ok-value.end c.args.bytes.now = c.in_ok-value.ensures.spelled in
    rw (whole, ← take_rest c.args.bytes.now c.in_ok-value.end, ← c.from-first.ensures) c.longer.ensures

pub returns : goal.returns
returns c =
    let bytes = c.args.bytes.now in
    let end = c.in_ok-value.end in
    let small = c.in_ok-value.ensures.small in
    let ended : NoDigitFirst (drop end bytes) = elim c.else-end-bytes.branch [
      | else-end-bytes-via-then-end-bytes+else-is_ascii_digit w ↦ no_digit_at bytes end w.if-end-bytes.true w.if-is_ascii_digit.ensures.cases
      | else-end-bytes-via-else-end-bytes w ↦ nothing_at bytes end (omega arith)
    ] in
    rw c.from-first.ensures (ends_at bytes bytes end c.in_ok-value.value c.in_ok-value.ensures.spelled (omega arith) ended)
