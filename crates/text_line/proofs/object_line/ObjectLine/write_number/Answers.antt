use Rattle.std.proofs.Common.{◌≡◌, length, arith}
use Rattle.std.proofs.lemmas.Fmt.{length-decimal-le}
use Rattle.text_line.proofs.Placed.{written_front}
use Rattle.text_line.proofs.object_line.ObjectLine.write_number.Goals as goal

pub write_digits-start-requires : goal.write_digits-start-requires
write_digits-start-requires c =
    let short = length-decimal-le 20 c.args.number (omega arith) (omega arith) (omega arith) in
    let long : length c.self.inside.bytes ≡ 38 = omega arith in
    (omega arith, omega arith)

pub overflow_sub-self : goal.overflow_sub-self
overflow_sub-self c = let short = length-decimal-le 20 c.args.number (omega arith) (omega arith) (omega arith) in let start = c.write_digits-start.ensures.start in omega arith

pub overflow_sub-self-2 : goal.overflow_sub-self-2
overflow_sub-self-2 c = let short = length-decimal-le 20 c.args.number (omega arith) (omega arith) (omega arith) in let start = c.write_digits-start.ensures.start in omega arith

pub overflow_sub-self-3 : goal.overflow_sub-self-3
overflow_sub-self-3 c = let short = length-decimal-le 20 c.args.number (omega arith) (omega arith) (omega arith) in let start = c.write_digits-start.ensures.start in omega arith

pub returns : goal.returns
returns c =
    let short = length-decimal-le 20 c.args.number (omega arith) (omega arith) (omega arith) in
    let start = c.write_digits-start.ensures.start in
    let long : length c.write_digits-start.new.buf ≡ 38 = omega arith in
    written_front c.write_digits-start.new.buf _ c.write_digits-start.result c.args.number long (omega arith) start c.write_digits-start.ensures.written
