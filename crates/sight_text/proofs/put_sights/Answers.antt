use Rattle.std.proofs.Common.{rules, ◌∙◌}
use Rattle.edge_io.proofs.Put.{on_err}
use Rattle.sight_text.proofs.Writing.{put_front, put_more}
use Rattle.sight_text.proofs.put_sights.Goals as goal

pub loop-sight-preserved : goal.loop-sight-preserved
loop-sight-preserved g c = record {
  same_sink = search rules;
  written = put_more _ _ _ _ _ _ _ c.args.watcher c.args.sights.now c.loop-sight.sight-index _ c.loop-sight-test.true (c.as_slice.ensures.text ∙ c.push_line.ensures.text)
      c.loop-sight.invariant.written c.in_ok-put.ensures.ok;
  faults = search rules;
}

pub returns-in_err-put-clause-err : goal.returns-in_err-put-clause-err
returns-in_err-put-clause-err g c = on_err c.from_residual.result
    (put_front _ _ _ _ _ _ c.args.watcher c.args.sights.now c.loop-sight.sight-index c.loop-sight.invariant.written c.in_err-put.ensures.err)
