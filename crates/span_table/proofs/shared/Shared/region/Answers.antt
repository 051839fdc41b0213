use Rattle.std.proofs.Common.{arith, ap, sym, ◌∙◌}
use Rattle.span_laws.specs.Views.{Seen}
use Rattle.span_table.proofs.shared.Shared.region.Goals as goal

pub returns-clause-region : goal.returns-clause-region
returns-clause-region c = let many = ap (λ (k : Seen). k.table.slots) c.w.view_is ∙ ap (λ z. z.slots) (c.requires.table ∙ sym c.self.view_is) in
    let region = c.w.invariant.region in let seen = ap (λ (k : Seen). k.view.region) c.w.view_is in let f = c.self.invariant.slots in omega arith
