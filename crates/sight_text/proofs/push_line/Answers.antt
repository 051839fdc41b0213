use Rattle.std.proofs.Common.{decimal}
use Rattle.sight_text.proofs.Writing.{line_form}
use Rattle.sight_text.proofs.push_line.Goals as goal

pub returns-clause-text : goal.returns-clause-text
returns-clause-text c =
    let s = c.args.sight in
    rw (
      c.push-5.ensures,
      c.push_decimal-2.ensures.text,
      c.push-4.ensures,
      c.push_decimal.ensures.text,
      c.push-3.ensures,
      c.push_short-2.ensures.text,
      c.push-2.ensures,
      c.push_short.ensures.text,
      c.push.ensures,
      c.requires.empty,
    ) (line_form (decimal c.args.watcher) (decimal s.k) (decimal s.allocs) (decimal s.frees))
