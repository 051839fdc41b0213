use Rattle.std.proofs.Common.{◌^◌, ◌<◌, ◌≡◌, ◌++◌, ◌-◌, ◌+◌, ℕ, decimal, drop, subst, arith}
use Rattle.std.proofs.Math.ListN.{get_or}
use Rattle.trace_reader.proofs.Digits.{begins_at, below_more, below_most, goes_on_at}
use Rattle.trace_reader.proofs.words.short_number.Goals as goal

pub returns-then-value-eq0 : goal.returns-then-value-eq0
returns-then-value-eq0 c =
    let bytes = c.args.bytes.now in
    let start = c.args.start in
    let nought : get_or bytes start 0 - 48 ≡ 0 = omega arith in
    record {
      spelled = subst (λ (n : ℕ). drop start bytes ≡ decimal n ++ drop (start + 1) bytes) nought (begins_at bytes start (omega arith) c.if-not-is_ascii_digit.ensures.cases);
      small = omega arith;
      inside = omega arith;
    }

pub loop-at-init : goal.loop-at-init
loop-at-init c =
    let digit = c.if-not-is_ascii_digit.ensures.cases in
    let one : c.args.start + 1 - c.args.start ≡ 1 = omega arith in
    record {
      spelled = rw (c.from.ensures, c.from-2.ensures) (begins_at c.args.bytes.now c.args.start (omega arith) digit);
      positive = omega arith;
      small = rw one (omega arith);
      begun = omega arith;
      few = omega arith;
      inside = omega arith;
    }

pub overflow_mul-value : goal.overflow_mul-value
overflow_mul-value c =
    let low : c.loop-at.value < 10 ^ 18 = below_most c.loop-at.value (c.loop-at.at - c.args.start) 18 c.loop-at.invariant.small (omega arith) in
    omega arith

pub overflow_add-value : goal.overflow_add-value
overflow_add-value c =
    let digit = c.if-is_ascii_digit.ensures.cases in
    let low : c.loop-at.value < 10 ^ 18 = below_most c.loop-at.value (c.loop-at.at - c.args.start) 18 c.loop-at.invariant.small (omega arith) in
    omega arith

pub loop-at-preserved : goal.loop-at-preserved
loop-at-preserved c =
    let digit = c.if-is_ascii_digit.ensures.cases in
    let low : c.loop-at.value < 10 ^ 18 = below_most c.loop-at.value (c.loop-at.at - c.args.start) 18 c.loop-at.invariant.small (omega arith) in
    let added : c.from-in-loop-at.result - c.from-in-loop-at-2.result < 10 = omega arith in
    record {
      spelled = rw (c.from-in-loop-at.ensures, c.from-in-loop-at-2.ensures) (goes_on_at _ c.args.bytes.now c.loop-at.at c.loop-at.value c.loop-at.invariant.positive (omega arith) (omega arith) digit c.loop-at.invariant.spelled);
      positive = omega arith;
      small = below_more c.loop-at.value _ c.args.start c.loop-at.at c.loop-at.invariant.small added c.loop-at.invariant.begun;
      begun = omega arith;
      few = omega arith;
      inside = omega arith;
    }
