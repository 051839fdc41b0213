use Rattle.report_check.proofs.Steps.{settled-test}
use Rattle.report_check.proofs.replay.Replay.is_settled.Goals as goal

pub returns : goal.returns
returns c = settled-test c.args.self.now c.requires
