use Rattle.std.proofs.Common.{◌≡◌, ◌-◌, ◌++◌, length, drop, ◌∙◌, arith, length-drop}
use Rattle.std.proofs.lemmas.List.{take_all}
use Rattle.text_line.proofs.Placed.{whole}
use Rattle.text_line.proofs.object_line.ObjectLine.as_slice.Goals as goal

pub returns-clause-text : goal.returns-clause-text
returns-clause-text c =
    let bytes = c.self.inside.bytes in
    let start = c.self.inside.start in
    let long : length bytes ≡ 38 = omega arith in
    take_all (38 - start) (drop start bytes) (omega (arith, length-drop start bytes)) ∙ whole bytes start long c.self.invariant ∙ (λ i. (c.self.view_is i).0 ++ (c.self.view_is i).1)
