use Rattle.std.proofs.Common.{rules, ◌≡◌, Err, refl}
use Rattle.sweep_laws.proofs.StepsKept.{ran_end, ran_more, ran_stops}
use Rattle.sweep_generation.proofs.run.run_all.Goals as goal

pub loop-mv-preserved : goal.loop-mv-preserved
loop-mv-preserved c = ran_more _ _ _ _ refl _ c.loop-mv.invariant _ _ _ _ c.loop-mv-test.true c.mv-item.is c.step_by-answer.ensures c.in_ok-answer.was

pub returns-in_err-answer : goal.returns-in_err-answer
returns-in_err-answer c = let e : c.from_residual.result ≡ Err c.in_err-answer.field-0.0 = search rules in
    ran_stops _ _ _ _ refl _ c.loop-mv.invariant _ _ _ _ _ c.loop-mv-test.true c.mv-item.is c.step_by-answer.ensures c.in_err-answer.was e

pub returns : goal.returns
returns c = ran_end _ _ _ _ refl _ c.loop-mv.invariant c.loop-mv-test.false
