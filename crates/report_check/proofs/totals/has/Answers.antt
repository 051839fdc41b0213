use Rattle.std.proofs.Common.{arith, subst}
use Rattle.cycle_history.specs.declared.Total.{Total}
use Rattle.page_alloc.specs.Lists.{In}
use Rattle.std.proofs.lemmas.Option.{slice_get-get_or}
use Rattle.report_check.proofs.Summed.{absent-more, absent-all, get-in, equal-total, other-total}
use Rattle.report_check.proofs.totals.has.Goals as goal

pub returns-then-eq : goal.returns-then-eq
returns-then-eq c = subst (λ (x : Total). In x c.args.totals.now) (equal-total _ c.args.total c.if-eq.ensures) (get-in c.args.totals.now c.loop-other.other-index _ (slice_get-get_or c.args.totals.now c.loop-other.other-index _ c.loop-other-test.true))

pub loop-other-preserved : goal.loop-other-preserved
loop-other-preserved c = absent-more c.args.totals.now c.args.total c.loop-other.other-index _ c.loop-other-test.true c.loop-other.invariant (other-total _ c.args.total c.if-eq.ensures)

pub returns : goal.returns
returns c = absent-all c.args.totals.now c.args.total c.loop-other.other-index (omega arith) c.loop-other.invariant
