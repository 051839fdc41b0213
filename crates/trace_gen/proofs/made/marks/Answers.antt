use Rattle.std.proofs.Common.{◌≡◌, arith, refl}
use Rattle.trace_gen.proofs.More.{marks_start, marks_more}
use Rattle.trace_gen.proofs.made.marks.Goals as goal

pub loop-i-init : goal.loop-i-init
loop-i-init c = marks_start _ _ _ c.new-marks.ensures c.in_ok-push.ensures.ok

pub loop-i-preserved : goal.loop-i-preserved
loop-i-preserved c = marks_more _ c.loop-i.i _ _ _ refl c.loop-i.invariant c.in_ok-push-2.ensures.ok

pub returns : goal.returns
returns c = let end : c.loop-i.i ≡ 1000 = omega (arith, c.loop-i-test.false) in rw end at c.loop-i.invariant
