use Rattle.std.proofs.Common.{rules}
use Rattle.edge_io.proofs.Put.{on_err}
use Rattle.report_text.proofs.Put.{put_more, put_front}
use Rattle.report_text.proofs.write.put_lines.Goals as goal

pub loop-number-preserved : goal.loop-number-preserved
loop-number-preserved g c = record {
  counted = search rules;
  same_sink = search rules;
  written = put_more g.X.ReportLine.printed _ _ _ _ _ _ c.args.items.now c.loop-number.number _ c.loop-number-test.true c.index-items-number.is c.loop-number.invariant.written
      (rw (c.as_slice.ensures.text, c.push_line.ensures.text c.loop-number.number c.loop-number.invariant.counted) at c.in_ok-put.ensures.ok);
  faults = search rules;
}

pub returns-in_err-put-clause-err : goal.returns-in_err-put-clause-err
returns-in_err-put-clause-err g c = on_err c.from_residual.result
    (put_front g.X.ReportLine.printed _ _ _ _ _ _ c.args.items.now c.loop-number.number c.loop-number.invariant.written c.in_err-put.ensures.err)
