use Rattle.std.proofs.Common.{rules, arith}
use Rattle.std.proofs.lemmas.Fmt.{length-decimal-le}
use Rattle.text_line.proofs.counter.Counter.write.Goals as goal

pub write_digits-self-inside-requires : goal.write_digits-self-inside-requires
write_digits-self-inside-requires c = let short = length-decimal-le 20 c.args.number (omega arith) (omega arith) (omega arith) in search rules
