use Rattle.std.proofs.Common.{rules}
use Rattle.std.proofs.lemmas.List.{get_or_default}
use Rattle.cycle_history.specs.Text.{answer_line}
use Rattle.edge_io.proofs.Put.{on_err}
use Rattle.report_text.proofs.Put.{answer_line_is, put_more, put_front}
use Rattle.report_text.proofs.write.put_answers.Goals as goal

pub loop-number-preserved : goal.loop-number-preserved
loop-number-preserved g c = record {
  front = search rules;
  same_sink = search rules;
  written = put_more answer_line _ _ _ _ _ _ c.args.answers.now c.loop-number.number _ c.loop-number-test.true (get_or_default _ _ _ _ c.loop-number-test.true) c.loop-number.invariant.written
      (rw (c.loop-number.invariant.front, answer_line_is) at c.in_ok-put_answer.ensures.ok);
  faults = search rules;
}

pub returns-in_err-put_answer-clause-err : goal.returns-in_err-put_answer-clause-err
returns-in_err-put_answer-clause-err g c = on_err c.from_residual.result
    (put_front answer_line _ _ _ _ _ _ c.args.answers.now c.loop-number.number c.loop-number.invariant.written c.in_err-put_answer.ensures.err)
