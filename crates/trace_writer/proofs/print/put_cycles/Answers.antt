use Rattle.std.proofs.Common.{rules}
use Rattle.trace_reader.specs.Spelling.{cycle_statements, line_for}
use Rattle.edge_io.proofs.Put.{on_err}
use Rattle.trace_writer.proofs.Put.{put_all, put_front, put_more}
use Rattle.trace_writer.proofs.print.put_cycles.Goals as goal

pub loop-cycle-preserved : goal.loop-cycle-preserved
loop-cycle-preserved g c = record {
  same_sink = search rules;
  written = put_more line_for cycle_statements _ _ _ _ _ _ c.args.cycles.now c.loop-cycle.cycle-index c.cycle-item.result c.loop-cycle-test.true c.loop-cycle.invariant.written (rw c.cycle-item.is at c.in_ok-put_cycle.ensures.ok);
  faults = search rules;
}

pub returns-in_err-put_cycle-clause-err : goal.returns-in_err-put_cycle-clause-err
returns-in_err-put_cycle-clause-err g c = on_err c.from_residual.result
    (put_front line_for cycle_statements _ _ _ _ _ _ c.args.cycles.now c.loop-cycle.cycle-index c.cycle-item.result c.loop-cycle-test.true c.loop-cycle.invariant.written (rw c.cycle-item.is at c.in_err-put_cycle.ensures.err))

pub returns-clause-ok : goal.returns-clause-ok
returns-clause-ok g c = put_all line_for cycle_statements _ _ _ _ c.args.cycles.now c.loop-cycle.cycle-index c.loop-cycle-test.false c.loop-cycle.invariant.written
