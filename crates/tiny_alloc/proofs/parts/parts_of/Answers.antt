use Rattle.std.proofs.Common.{◌+◌, arith}
use Rattle.cycle_history.proofs.Firsts.{before-all, before-le}
use Rattle.tiny_alloc.proofs.Parted.{parts-all}
use Rattle.tiny_alloc.proofs.parts.parts_of.Goals as goal

pub returns-clause-parts : goal.returns-clause-parts
returns-clause-parts c =
    let t = c.args.trace.now in
    let end = c.len-cycle-end.ensures in
    let over = c.loop-cycle-test.false in
    let all = before-all t c.loop-cycle.cycle (omega arith) in
    let done = c.loop-cycle.invariant.done in
    let answers = c.requires.answers in
    parts-all t c.args.answers.now c.loop-cycle.parts.items c.loop-cycle.invariant.parts (omega arith)

pub add_parts-requires-clause-answers : goal.add_parts-requires-clause-answers
add_parts-requires-clause-answers c =
    let answers = c.requires.answers in
    let le = before-le c.args.trace.now (c.loop-cycle.cycle + 1) in
    omega arith
