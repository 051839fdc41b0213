use Rattle.report_text.proofs.Refused.{completes}
use Rattle.report_text.proofs.reader.read_report.Goals as goal

pub returns-clause-complete : goal.returns-clause-complete
returns-clause-complete g c = completes g.S.Source.left c.args.lines.now c.read_onto.new.lines c.read_onto.result c.read_onto.ensures.read c.read_onto.ensures.refused
