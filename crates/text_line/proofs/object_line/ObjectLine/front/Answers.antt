use Rattle.std.proofs.Common.{◌∙◌}
use Rattle.text_line.proofs.Placed.{middle}
use Rattle.text_line.proofs.object_line.ObjectLine.front.Goals as goal

pub returns-clause-text : goal.returns-clause-text
returns-clause-text c = middle c.self.inside.bytes c.self.inside.start 24 c.self.invariant ∙ (λ i. (c.self.view_is i).0)
