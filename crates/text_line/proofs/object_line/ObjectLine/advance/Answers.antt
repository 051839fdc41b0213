use Rattle.std.proofs.Common.{◌∙◌, arith}
use Rattle.text_line.proofs.Placed.{next_front}
use Rattle.text_line.proofs.object_line.ObjectLine.advance.Goals as goal

pub returns-then-last-lt57 : goal.returns-then-last-lt57
returns-then-last-lt57 c = next_front c.self.inside.bytes c.self.inside.start c.args.number (omega arith) c.self.invariant c.requires.below ((λ i. (c.self.view_is i).0) ∙ c.requires.at) c.if-last-lt57.true
