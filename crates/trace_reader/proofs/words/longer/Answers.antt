use Rattle.std.proofs.Common.{◌^◌, ◌≡◌, ◌≤◌, ◌⊎◌, arith, inl, inr}
use Rattle.trace_reader.proofs.Digits.{goes_on, no_longer}
use Rattle.trace_reader.proofs.words.longer.Goals as goal

pub returns-then-value-eq0 : goal.returns-then-value-eq0
returns-then-value-eq0 c =
    let edge : (c.loop-byte.value ≡ 0) ⊎ (10 ^ 19 ≤ c.loop-byte.value) = elim c.then-value-eq0.either [ inl z ↦ inl z | inr high ↦ inr high.1 ] in
    no_longer _ _ _ c.loop-byte.value c.in-Some.byte c.loop-byte.invariant.spelled c.in-Some.ensures.1 c.in-Some.ensures.0 c.loop-byte.invariant.small edge

pub loop-byte-preserved : goal.loop-byte-preserved
loop-byte-preserved c =
    let positive : 1 ≤ c.loop-byte.value = omega arith in
    let digit = c.in-Some.ensures.0 in
    record {
      spelled = rw c.from.ensures (goes_on _ _ _ c.loop-byte.value c.in-Some.byte positive c.loop-byte.invariant.small c.in-Some.ensures.0 c.in-Some.ensures.1 c.loop-byte.invariant.spelled);
      small = omega arith;
    }
