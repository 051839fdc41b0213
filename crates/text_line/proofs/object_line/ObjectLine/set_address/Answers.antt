use Rattle.std.proofs.Common.{◌≡◌, ◌∙◌, length, arith}
use Rattle.text_line.proofs.Placed.{addressed, kept, put_behind}
use Rattle.text_line.proofs.object_line.ObjectLine.set_address.Goals as goal

pub returns-clause-front : goal.returns-clause-front
returns-clause-front c =
    let long : length c.self.inside.bytes ≡ 38 = omega arith in
    let after : length c.write_ten.new.bytes ≡ 38 = omega arith in
    kept c.self.inside.bytes _ _ c.self.inside.start long (addressed c.self.inside.bytes c.write_ten.new.bytes _ long after c.write_ten.ensures.written) ∙ (λ i. (c.self.view_is i).0)

pub returns-clause-address : goal.returns-clause-address
returns-clause-address c =
    let long : length c.self.inside.bytes ≡ 38 = omega arith in
    let after : length c.write_ten.new.bytes ≡ 38 = omega arith in
    put_behind c.self.inside.bytes _ _ long (addressed c.self.inside.bytes c.write_ten.new.bytes _ long after c.write_ten.ensures.written)
