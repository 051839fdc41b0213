use Rattle.std.proofs.Common.{◌≡◌, ℕ, suc, ◌+◌, ◌-◌, ◌*◌, ◌/◌, ◌<◌, ◌≤◌, Bool, eqb, eq-eqb, sym, ap, subst, ◌∙◌, arith}
use Rattle.span_table.proofs.blocks.spare_block.Goals as goal

pub overflow_cast-result : goal.overflow_cast-result
overflow_cast-result c = let t = c.shared.invariant in let slots = t.slots in let few = t.few in let many = ap (λ z. z.slots) (c.requires.table ∙ sym c.shared.view_is) in let low = c.draw.ensures.low in omega arith

pub overflow_add-result : goal.overflow_add-result
overflow_add-result c = let t = c.shared.invariant in let slots = t.slots in let few = t.few in let many = ap (λ z. z.slots) (c.requires.table ∙ sym c.shared.view_is) in let low = c.draw.ensures.low in omega arith
