use Rattle.std.proofs.Common.{◌+◌, ℕ, List, sym, subst}
use Rattle.cycle_history.specs.declared.Prof.{Prof}
use Rattle.report_check.proofs.Showing.{ArePlacesTo, lines-all, lines-more}
use Rattle.report_check.proofs.profile.printed_of.Goals as goal

pub loop-line-preserved : goal.loop-line-preserved
loop-line-preserved c = subst (λ (xs : List ℕ). ArePlacesTo c.args.lines.now (c.loop-line.line-index + 1) xs) (sym c.in_ok-push.ensures.items)
    (lines-more c.args.lines.now c.loop-line.line-index c.place_of.result none c.loop-line.places.items c.loop-line-test.true c.place_of.ensures.place c.place_of.ensures.slot c.place_of.ensures.mark c.loop-line.invariant)
  where
    none : Prof
    none = record { mark = 0; stack = 0; size = 0; allocs = 0; frees = 0 }

pub returns : goal.returns
returns c = lines-all c.args.lines.now c.loop-line.line-index c.loop-line.places.items c.of.result c.loop-line-test.false c.of.ensures c.loop-line.invariant
