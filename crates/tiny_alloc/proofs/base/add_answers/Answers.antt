use Rattle.std.proofs.Common.{◌+◌, arith, refl}
use Rattle.tiny_alloc.proofs.Listed.{answers-onto}
use Rattle.tiny_alloc.proofs.base.add_answers.Goals as goal

pub loop-place-preserved : goal.loop-place-preserved
loop-place-preserved c =
    let lt = c.loop-place-test.true in
    let inside = c.requires.inside in
    answers-onto c.args.parts.now c.args.first c.loop-place.place (c.args.first + c.loop-place.place) c.args.answers.now c.args.based.now c.loop-place.based c.push.new.self _ _ _ lt (omega arith)
    c.loop-place.invariant refl c.based_answer.ensures c.in_ok-push.ensures.ok
