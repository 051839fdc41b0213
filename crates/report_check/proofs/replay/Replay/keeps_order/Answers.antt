use Rattle.std.proofs.Common.{arith}
use Rattle.report_check.proofs.Steps.{falls, keeps-test, other-cycle}
use Rattle.report_check.proofs.replay.Replay.keeps_order.Goals as goal

pub returns-then-cycle-self : goal.returns-then-cycle-self
returns-then-cycle-self c = falls c.args.self.now c.args.line c.cycle_of-cycle.result c.requires c.cycle_of-cycle.ensures c.if-cycle-self.true

pub returns-then-self-eq0 : goal.returns-then-self-eq0
returns-then-self-eq0 c =
    keeps-test c.comes_behind.result c.args.self.now c.args.line c.cycle_of-cycle.result c.requires c.cycle_of-cycle.ensures c.if-cycle-self.false
    (λ some. absurd (let none = c.if-self-eq0.true in omega arith)) c.comes_behind.ensures

pub returns-then-cycle-self-2 : goal.returns-then-cycle-self-2
returns-then-cycle-self-2 c =
    other-cycle c.args.self.now c.args.line c.cycle_of-cycle.result c.requires c.cycle_of-cycle.ensures (let some = c.if-self-eq0.false in omega arith) c.if-cycle-self-2.true

pub returns : goal.returns
returns c =
    keeps-test c.comes_behind-2.result c.args.self.now c.args.line c.cycle_of-cycle.result c.requires c.cycle_of-cycle.ensures c.if-cycle-self.false (λ some. c.if-cycle-self-2.false) c.comes_behind-2.ensures
