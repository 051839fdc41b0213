use Rattle.std.proofs.Common.{arith}
use Rattle.report_check.proofs.Lost.{range-lost, range-more, not-placed}
use Rattle.report_check.proofs.places.first_lost_in.Goals.{in-Placed+else-not-has_life, in_default}
use Rattle.report_check.proofs.places.first_lost_in.Goals as goal

pub returns-then-not-has_life : goal.returns-then-not-has_life
returns-then-not-has_life c =
    range-lost c.args.lives.now c.args.items.now c.args.low c.args.high c.args.bound c.loop-number.number c.in-Placed.address _ c.if-number-bound.false c.requires.bound c.loop-number.auto.number c.loop-number-test.true
    c.requires.seats c.in-Placed.is c.if-not-has_life.ensures c.loop-number.invariant

pub loop-number-preserved : goal.loop-number-preserved
loop-number-preserved c =
    let lt = c.if-number-bound.false in
    let room = c.requires.bound in
    range-more c.args.lives.now c.args.items.now c.args.low c.args.bound c.loop-number.number _ (omega arith)
    (λ placed. elim c.match-item.branch [
      | in-Placed+else-not-has_life w ↦ w.if-not-has_life.ensures
      | in_default w ↦ absurd (not-placed _ w.in_default.not-Placed placed)
    ])
    c.loop-number.invariant
