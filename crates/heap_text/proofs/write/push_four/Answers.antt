use Rattle.std.proofs.Common.{decimal}
use Rattle.heap_text.proofs.Writing.{four_form}
use Rattle.heap_text.proofs.write.push_four.Goals as goal

pub returns-clause-text : goal.returns-clause-text
returns-clause-text c =
    let s = c.args.sums in
    rw (
      c.push-4.ensures,
      c.push_decimal-4.ensures.text,
      c.push-3.ensures,
      c.push_decimal-3.ensures.text,
      c.push-2.ensures,
      c.push_decimal-2.ensures.text,
      c.push.ensures,
      c.push_decimal.ensures.text,
    ) (four_form c.args.text.now (decimal s.objects) (decimal s.bytes) (decimal s.all_objects) (decimal s.all_bytes))
