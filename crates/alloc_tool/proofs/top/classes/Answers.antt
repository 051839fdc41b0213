use Rattle.alloc_tool.proofs.Plain.{failed_writes}
use Rattle.commands.specs.Classes.{classes_text}
use Rattle.alloc_tool.proofs.top.classes.Goals as goal

pub returns-in-Err-clause-writes : goal.returns-in-Err-clause-writes
returns-in-Err-clause-writes g c =
    failed_writes g.K.Sink.held g.K.Sink.faults g.E.Sink.held g.E.Sink.faults classes_text c.args.output.now c.write_classes.new.out c.args.errors.now c.stop_writing.new.errors c.stop_writing.result
    c.stop_writing.ensures.status c.in-Err.ensures.cause.failed c.in-Err.ensures.front c.stop_writing.ensures.told
