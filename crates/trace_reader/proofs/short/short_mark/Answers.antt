use Rattle.std.proofs.Common.{refl, arith}
use Rattle.trace_reader.proofs.Forms.{mark_before}
use Rattle.trace_reader.proofs.short.short_mark.Goals as goal

pub returns : goal.returns
returns c =
    let lo = c.in_ok-lo.ensures.0 in
    let hi = c.in_ok-hi.ensures.0 in
    (mark_before c.args.bytes.now c.args.end _ _ _ c.in_ok-lo.lo c.in_ok-hi.hi (c.if-not-begins_with.ensures refl).0 lo.spelled c.in_ok-at.ensures.0 hi.spelled (omega arith), (omega arith, (omega arith, tt)))
