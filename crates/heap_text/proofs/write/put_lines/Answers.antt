use Rattle.std.proofs.Common.{rules, ◌∙◌}
use Rattle.edge_io.proofs.Put.{on_err}
use Rattle.heap_text.proofs.Writing.{put_front, put_more}
use Rattle.heap_text.proofs.write.put_lines.Goals as goal

pub loop-line-preserved : goal.loop-line-preserved
loop-line-preserved g c = record {
  same_sink = search rules;
  written = put_more _ _ _ _ _ _ _ c.args.lines.now c.loop-line.line-index _ c.loop-line-test.true (c.as_slice.ensures.text ∙ c.push_line.ensures.text)
      c.loop-line.invariant.written c.in_ok-put.ensures.ok;
  faults = search rules;
}

pub returns-in_err-put-clause-err : goal.returns-in_err-put-clause-err
returns-in_err-put-clause-err g c = on_err c.from_residual.result
    (put_front _ _ _ _ _ _ c.args.lines.now c.loop-line.line-index c.loop-line.invariant.written c.in_err-put.ensures.err)
