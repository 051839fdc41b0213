use Rattle.report_check.proofs.Steps.{off-order}
use Rattle.report_check.proofs.replay.Replay.accept.Goals as goal

pub returns-then-not-keeps_order : goal.returns-then-not-keeps_order
returns-then-not-keeps_order c = off-order c.args.self.now c.args.line c.if-not-keeps_order.ensures
