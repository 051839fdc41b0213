use Rattle.std.proofs.Common.{arith}
use Rattle.std.proofs.lemmas.Option.{slice_get-get_or}
use Rattle.report_check.proofs.Summed.{printed-more, printed-all, get-in}
use Rattle.report_check.proofs.totals.has_all.Goals as goal

pub returns-then-not-has : goal.returns-then-not-has
returns-then-not-has c =
    (_, get-in c.args.totals.now c.loop-total.total-index _ (slice_get-get_or c.args.totals.now c.loop-total.total-index _ c.loop-total-test.true), c.if-not-has.ensures)

pub loop-total-preserved : goal.loop-total-preserved
loop-total-preserved c = printed-more c.args.printed.now c.args.totals.now c.loop-total.total-index _ c.loop-total-test.true c.loop-total.invariant c.if-not-has.ensures

pub returns : goal.returns
returns c = printed-all c.args.printed.now c.args.totals.now c.loop-total.total-index (omega arith) c.loop-total.invariant
