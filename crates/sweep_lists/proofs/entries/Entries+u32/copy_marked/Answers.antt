use Rattle.std.proofs.Common.{List, ℕ, length, refl, ◌∙◌, ap, arith}
use Rattle.sweep_reads.proofs.OfPage.{marks-indices}
use Rattle.sweep_lists.proofs.entries.Entries+u32.copy_marked.Goals as goal

pub copy_indices-requires : goal.copy_indices-requires
copy_indices-requires c =
    let same = ap (λ (xs : List ℕ). length xs) (marks-indices c.args.page c.args.marks.now.pairs) in
    let few = rw (← c.self.view_is) at c.requires in
    omega (arith, c.self.invariant, same, few)

pub returns : goal.returns
returns c =
    rw (← c.self.view_is, c.copy_indices.ensures.items ∙ marks-indices c.args.page c.args.marks.now.pairs) refl
