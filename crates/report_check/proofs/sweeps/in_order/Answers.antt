use Rattle.std.proofs.Common.{◌-◌, arith}
use Rattle.std.proofs.lemmas.Option.{slice_get-get_or}
use Rattle.report_check.proofs.Righting.{order-one, order-more, disorder-at, order-all}
use Rattle.report_check.proofs.sweeps.in_order.Goals as goal

pub loop-place-init : goal.loop-place-init
loop-place-init c = record { some = omega arith; order = order-one c.args.sweeps.now }

pub returns-then-not-comes_before : goal.returns-then-not-comes_before
returns-then-not-comes_before c =
    let some = c.loop-place.invariant.some in
    let lt = c.loop-place-test.true in
    let a = slice_get-get_or c.args.sweeps.now (c.loop-place.place - 1) _ (omega arith) in
    let b = slice_get-get_or c.args.sweeps.now c.loop-place.place _ (omega arith) in
    disorder-at c.args.sweeps.now c.loop-place.place _ _ some (omega arith) a b c.if-not-comes_before.ensures c.loop-place.invariant.order

pub loop-place-preserved : goal.loop-place-preserved
loop-place-preserved c =
    let some = c.loop-place.invariant.some in
    let lt = c.loop-place-test.true in
    let a = slice_get-get_or c.args.sweeps.now (c.loop-place.place - 1) _ (omega arith) in
    let b = slice_get-get_or c.args.sweeps.now c.loop-place.place _ (omega arith) in
    record { some = omega arith; order = order-more c.args.sweeps.now c.loop-place.place _ _ some a b c.if-not-comes_before.ensures c.loop-place.invariant.order }

pub returns : goal.returns
returns c = order-all c.args.sweeps.now c.loop-place.place c.loop-place-test.false c.loop-place.invariant.order
