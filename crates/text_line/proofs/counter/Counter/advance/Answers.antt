use Rattle.std.proofs.Common.{◌∙◌, arith}
use Rattle.text_line.proofs.Counted.{next_digits}
use Rattle.text_line.proofs.counter.Counter.advance.Goals as goal

pub returns-then-last-lt57 : goal.returns-then-last-lt57
returns-then-last-lt57 c = next_digits c.self.inside.digits c.self.inside.start c.args.number (omega arith) c.self.invariant c.requires.below (c.self.view_is ∙ c.requires.at) c.if-last-lt57.true
