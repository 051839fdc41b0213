use Rattle.std.proofs.Common.{◌≡◌, ◌+◌, ◌==◌, ℕ, length, get_or, drop, ap, ◌∙◌, arith}
use Rattle.std.proofs.lemmas.List.{drop_more, drop_all}
use Rattle.sweep_laws.specs.Lists.{rises}
use Rattle.sweep_generation.proofs.Packed.{number_more, number_all}
use Rattle.sweep_generation.proofs.tries_next.is_rising.Goals as goal

pub loop-mark-init : goal.loop-mark-init
loop-mark-init c = record {
  last = c.in-Some.first.now;
  fits = c.packed-last.ensures.second;
  packed = c.packed-last.ensures.number;
  few = omega arith;
  rise = ap rises c.in-Some.ensures.cases.0;
}

pub loop-mark-preserved : goal.loop-mark-preserved
loop-mark-preserved c =
    let i = c.loop-mark.mark-index in
    let mark = get_or c.in-Some.rest.now i (0, 0) in
    let from = rw (drop_more c.in-Some.rest.now i (0, 0) c.loop-mark-test.true) at c.loop-mark.invariant in
    rw c.from-risen.ensures (number_more c.loop-mark.last c.packed-number.result c.loop-mark.risen i mark (drop (i + 1) c.in-Some.rest.now) (rises c.args.marks.now) from c.packed-number.ensures.second c.packed-number.ensures.number)

pub returns : goal.returns
returns c =
    let all : length c.in-Some.rest.now ≡ c.loop-mark.mark-index = omega arith in
    ap (λ (n : ℕ). c.loop-mark.risen == n) all
    ∙ number_all c.loop-mark.last c.loop-mark.risen c.loop-mark.mark-index (rises c.args.marks.now) (rw (drop_all c.loop-mark.mark-index c.in-Some.rest.now c.loop-mark-test.false) at c.loop-mark.invariant)
