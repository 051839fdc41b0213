use Rattle.std.proofs.Common.{rules, arith, ◌∙◌}
use Rattle.std.proofs.lemmas.Result.{on_ok_weaker}
use Rattle.commands.proofs.ClassLines.{all_front, all_put, all_sent, front_at, no_lines, one_more}
use Rattle.commands.proofs.classes.write_lines.Goals as goal

pub loop-before-init : goal.loop-before-init
loop-before-init g c = record {
  same_sink = search rules;
  written = no_lines _ _ (search rules);
  faults = omega arith;
}

pub loop-before-preserved : goal.loop-before-preserved
loop-before-preserved g c = record {
  same_sink = search rules;
  written = one_more _ _ _ _ _ _ _ c.loop-before.before c.loop-before.invariant.written (c.as_slice.ensures.text ∙ c.push_class.ensures.text) c.in_ok-put.ensures.ok;
  faults = search rules;
}

pub returns-in_err-put-clause-front : goal.returns-in_err-put-clause-front
returns-in_err-put-clause-front g c = front_at _ _ _ _ _ _ c.loop-before.before (omega arith) c.requires c.loop-before.invariant.written c.in_err-put.ensures.err

pub returns-clause-front : goal.returns-clause-front
returns-clause-front g c = all_front _ _ _ (all_put _ _ _ _ _ _ c.loop-before.before (omega arith) c.requires c.loop-before.invariant.written c.flush.ensures.sends)

pub returns-clause-ok : goal.returns-clause-ok
returns-clause-ok g c = on_ok_weaker c.flush.result (λ empty.
    all_sent _ _ _ (all_put _ _ _ _ _ _ c.loop-before.before (omega arith) c.requires c.loop-before.invariant.written c.flush.ensures.sends) empty) c.flush.ensures.ok
