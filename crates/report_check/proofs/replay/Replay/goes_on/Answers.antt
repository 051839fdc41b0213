use Rattle.std.proofs.Common.{refl}
use Rattle.report_check.proofs.Coming.{match-false, match-true}
use Rattle.report_check.proofs.Steps.{accept-plain, of-settled, refuse-plain}
use Rattle.report_check.proofs.replay.Replay.goes_on.Goals as goal

pub follows-requires-clause-blocks : goal.follows-requires-clause-blocks
follows-requires-clause-blocks c = of-settled c.args.self.now c.args.line c.requires.order

pub returns-then-not-branch : goal.returns-then-not-branch
returns-then-not-branch c = refuse-plain c.args.self.now c.args.line c.requires.sound c.requires.order c.requires.plain (match-false c.in_ok-follows.field-0 _ _ (cc) c.in_ok-follows.ensures)

pub returns : goal.returns
returns c = accept-plain c.args.self.now _ c.args.line c.requires.sound c.requires.order c.requires.plain (match-true c.in_ok-follows.field-0 _ _ (cc) c.in_ok-follows.ensures) refl refl c.cycle_of-self.ensures refl
