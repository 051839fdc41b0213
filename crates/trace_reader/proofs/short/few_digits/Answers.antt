use Rattle.std.proofs.Common.{◌<◌, ◌≡◌, ◌≤◌, ◌^◌, ◌++◌, ◌-◌, ◌+◌, ◌%◌, ℕ, decimal, drop, subst, arith}
use Rattle.std.proofs.Math.ListN.{get_or}
use Rattle.trace_reader.proofs.Digits.{begins_at, below_most, below_step, digit_before_feed, digit_of, goes_on_from}
use Rattle.trace_reader.proofs.short.few_digits.Goals as goal

pub returns-then-value-eq0 : goal.returns-then-value-eq0
returns-then-value-eq0 c =
    let bytes = c.args.bytes.now in
    let start = c.args.start in
    let worth : (get_or bytes start 0 + 4294967248) % 4294967296 ≤ 9 = omega arith in
    let digit = digit_of (get_or bytes start 0) (omega arith) worth in
    let before = digit_before_feed bytes c.args.end start c.requires.fed c.requires.inside digit.0.0 in
    let nought : get_or bytes start 0 - 48 ≡ 0 = omega arith in (
      record {
        spelled = subst (λ (n : ℕ). drop start bytes ≡ decimal n ++ drop (start + 1) bytes) nought (begins_at bytes start (omega arith) digit.0);
        small = omega arith;
        inside = omega arith;
      },
      omega arith,
    )

pub loop-count-init : goal.loop-count-init
loop-count-init c =
    let bytes = c.args.bytes.now in
    let start = c.args.start in
    let worth : (get_or bytes start 0 + 4294967248) % 4294967296 ≤ 9 = omega arith in
    let digit = digit_of (get_or bytes start 0) (omega arith) worth in
    let before = digit_before_feed bytes c.args.end start c.requires.fed c.requires.inside digit.0.0 in
    record {
      spelled = rw (c.from-value.ensures, digit.1) (begins_at bytes start (omega arith) digit.0);
      positive = omega arith;
      small = omega arith;
      begun = omega arith;
      few = omega arith;
      inside = omega arith;
    }

pub overflow_mul-value : goal.overflow_mul-value
overflow_mul-value c =
    let low : c.loop-count.value < 10 ^ 8 = below_most c.loop-count.value c.loop-count.count 8 c.loop-count.invariant.small (omega arith) in
    omega arith

pub overflow_add-value : goal.overflow_add-value
overflow_add-value c =
    let low : c.loop-count.value < 10 ^ 8 = below_most c.loop-count.value c.loop-count.count 8 c.loop-count.invariant.small (omega arith) in
    omega arith

pub loop-count-preserved : goal.loop-count-preserved
loop-count-preserved c =
    let bytes = c.args.bytes.now in
    let at = c.args.start + c.loop-count.count in
    let low : c.loop-count.value < 10 ^ 8 = below_most c.loop-count.value c.loop-count.count 8 c.loop-count.invariant.small (omega arith) in
    let worth : (get_or bytes at 0 + 4294967248) % 4294967296 ≤ 9 = omega arith in
    let digit = digit_of (get_or bytes at 0) (omega arith) worth in
    let before = digit_before_feed bytes c.args.end at c.requires.fed c.loop-count.invariant.inside digit.0.0 in
    record {
      spelled = rw (c.from-digit.ensures, digit.1) (goes_on_from _ bytes c.args.start c.loop-count.count c.loop-count.value c.loop-count.invariant.positive (omega arith) (omega arith) digit.0 c.loop-count.invariant.spelled);
      positive = omega arith;
      small = below_step c.loop-count.value _ c.loop-count.count c.loop-count.invariant.small (omega arith);
      begun = omega arith;
      few = omega arith;
      inside = omega arith;
    }
