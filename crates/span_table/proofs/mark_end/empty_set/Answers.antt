use Rattle.std.proofs.Common.{◌≡◌, ℕ, suc, ◌+◌, ◌-◌, ◌*◌, ◌/◌, ◌<◌, ◌≤◌, Bool, eqb, eq-eqb, sym, ap, subst, ◌∙◌, arith}
use Rattle.span_table.proofs.mark_end.empty_set.Goals as goal

pub empty_entries-requires-clause-region : goal.empty_entries-requires-clause-region
empty_entries-requires-clause-region c = let t = c.shared.invariant in let slots = t.slots in let many = ap (λ z. z.slots) (c.requires.table ∙ sym c.shared.view_is) in
    let one = ap (λ z. z.slots) c.measure-tail.ensures.table in let two = ap (λ z. z.slots) c.empty_cells.ensures.table in
    let low = c.measure-tail.ensures.low in let region = c.requires.region in let number = c.div_ceil.ensures in omega arith
