use Rattle.report_check.proofs.Steps.{behind-any, behind-cut}
use Rattle.report_check.proofs.replay.Replay.comes_behind.Goals as goal

pub returns-in-Some : goal.returns-in-Some
returns-in-Some c = behind-cut c.is_cut_or_drop.result c.args.self.now c.args.line c.in-Some.proc c.requires c.in-Some.is c.is_cut_or_drop.ensures

pub returns-in-None : goal.returns-in-None
returns-in-None c = behind-any c.args.self.now c.args.line c.requires c.in-None.is
