use Rattle.heap_text.proofs.Refused.{completes}
use Rattle.heap_text.proofs.reader.read_heap.Goals as goal

pub returns-clause-complete : goal.returns-clause-complete
returns-clause-complete g c = completes g.S.Source.left c.args.lines.now c.read_onto.new.lines c.read_onto.result c.read_onto.ensures.read c.read_onto.ensures.refused
