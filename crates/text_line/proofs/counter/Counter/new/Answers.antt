use Rattle.std.proofs.Common.{sym, arith}
use Rattle.std.proofs.lemmas.Fmt.{decimal_digit}
use Rattle.text_line.proofs.counter.Counter.new.Goals as goal

pub returns : goal.returns
returns c = sym (decimal_digit 0 (omega arith))
