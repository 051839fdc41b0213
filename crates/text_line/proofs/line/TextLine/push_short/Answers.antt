use Rattle.std.proofs.Common.{rules, arith}
use Rattle.std.proofs.lemmas.Grind.{common_steps}
use Rattle.std.proofs.lemmas.Fmt.{length-decimal-le}
use Rattle.text_line.proofs.line.TextLine.push_short.Goals as goal

pub write_digits-start-requires : goal.write_digits-start-requires
write_digits-start-requires c = let short = length-decimal-le 20 c.args.number (omega arith) (omega arith) (omega arith) in search rules

pub push_digits-requires-clause-short : goal.push_digits-requires-clause-short
push_digits-requires-clause-short c = let short = length-decimal-le 10 c.args.number (omega arith) (omega arith) (omega arith) in let start = c.write_digits-start.ensures.start in search rules

pub returns-clause-short : goal.returns-clause-short
returns-clause-short c = let short = length-decimal-le 10 c.args.number (omega arith) (omega arith) (omega arith) in let start = c.write_digits-start.ensures.start in grind (arith, common_steps)
