use Rattle.std.proofs.Common.{true}
use Rattle.report_check.proofs.Righting.{may-give}
use Rattle.report_check.proofs.gives.may_give.Goals as goal

pub returns-then-life-cycle : goal.returns-then-life-cycle
returns-then-life-cycle c sweeps are = may-give c.has.result c.args.lives.now sweeps c.args.cycle c.args.page c.in-Some.life c.in-Some.is c.if-life-cycle.true (c.has.ensures true sweeps are)
