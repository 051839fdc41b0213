use Rattle.report_check.proofs.Summed.{at-none}
use Rattle.report_check.proofs.totals.first_misfit.Goals as goal

pub loop-place-init : goal.loop-place-init
loop-place-init c = at-none c.args.right.now c.args.printed.now
