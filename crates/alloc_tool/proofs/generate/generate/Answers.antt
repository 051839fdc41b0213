use Rattle.std.proofs.Common.{Err, ap}
use Rattle.commands.specs.Asks.{made_text}
use Rattle.alloc_tool.proofs.Plain.{failed_writes, spent_writes}
use Rattle.alloc_tool.proofs.generate.generate.Goals as goal

pub returns-in-Err-Failed : goal.returns-in-Err-Failed
returns-in-Err-Failed g c =
    failed_writes g.K.Sink.held g.K.Sink.faults g.E.Sink.held g.E.Sink.faults (made_text c.args.wanted.seed c.args.wanted.objects) c.args.output.now c.write_made.new.out c.args.errors.now c.stop_writing.new.errors c.stop_writing.result
    c.stop_writing.ensures.status (c.in-Err-Failed.ensures.cause (ap Err c.in-Err-Failed.field-0-is)) (c.in-Err-Failed.ensures.front (ap Err c.in-Err-Failed.field-0-is)) c.stop_writing.ensures.told

pub returns-in-Err-NoMemory : goal.returns-in-Err-NoMemory
returns-in-Err-NoMemory g c =
    spent_writes g.K.Sink.held g.K.Sink.faults g.E.Sink.held g.E.Sink.faults (made_text c.args.wanted.seed c.args.wanted.objects) c.args.output.now c.write_made.new.out c.args.errors.now c.refuse_trace.new.errors c.refuse_trace.result
    c.refuse_trace.ensures.status (c.in-Err-NoMemory.ensures.no_memory (ap Err c.in-Err-NoMemory.field-0-is)) c.refuse_trace.ensures.told
