use Rattle.std.proofs.Common.{arith, inl, inr}
use Rattle.report_check.proofs.Rows.{set-none, set-more, set-end}
use Rattle.report_check.proofs.lasts.set_range.Goals as goal

pub loop-place-init : goal.loop-place-init
loop-place-init c = record { set = set-none c.args.low c.args.value c.args.numbers.now; empty = λ lt. omega arith }

pub loop-place-preserved : goal.loop-place-preserved
loop-place-preserved c = record {
  set = set-more c.args.low c.loop-place.place c.args.value c.args.numbers.now c.loop-place.numbers c.loop-place.auto.place (omega arith) c.loop-place.invariant.set;
  empty = λ lt. (let a = c.loop-place.auto.place in let b = c.loop-place-test.true in omega arith);
}

pub returns-then-place-numbers : goal.returns-then-place-numbers
returns-then-place-numbers c =
    set-end c.args.low c.args.high c.loop-place.place c.args.value c.args.numbers.now c.loop-place.numbers (inl (omega arith)) (λ le. (let t = c.loop-place-test.true in omega arith)) c.loop-place.invariant.empty c.loop-place.invariant.set

pub returns : goal.returns
returns c =
    set-end c.args.low c.args.high c.loop-place.place c.args.value c.args.numbers.now c.loop-place.numbers (inr c.loop-place-test.false) c.loop-place.auto.place-end c.loop-place.invariant.empty c.loop-place.invariant.set
