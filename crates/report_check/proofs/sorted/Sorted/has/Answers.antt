use Rattle.std.proofs.Common.{ℕ, List, MatchBool, sym, ◌∙◌, subst}
use Rattle.std.proofs.lemmas.List.Sorted.{searched}
use Rattle.page_alloc.specs.Lists.{In}
use Rattle.report_check.specs.Order.{AreRising}
use Rattle.report_check.proofs.Counting.{found}
use Rattle.report_check.proofs.sorted.Sorted.has.Goals as goal

pub returns : goal.returns
returns c =
    let same = c.as_slice.ensures.value in
    let rising : AreRising c.as_slice.result.now = subst AreRising (sym same) c.self.invariant in
    subst (λ (xs : List ℕ). MatchBool c.is_ok.result (In c.args.number xs) (¬ In c.args.number xs)) (same ∙ c.self.view_is)
    (found c.as_slice.result.now c.args.number _ c.is_ok.result c.is_ok.ensures.value (searched _ c.args.number _ c.binary_search.ensures.position rising))
