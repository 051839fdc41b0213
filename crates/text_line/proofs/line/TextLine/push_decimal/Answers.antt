use Rattle.std.proofs.Common.{rules, arith}
use Rattle.std.proofs.lemmas.Fmt.{length-decimal-le}
use Rattle.text_line.proofs.line.TextLine.push_decimal.Goals as goal

pub write_digits-start-requires : goal.write_digits-start-requires
write_digits-start-requires c = let short = length-decimal-le 20 c.args.number (omega arith) (omega arith) (omega arith) in search rules
