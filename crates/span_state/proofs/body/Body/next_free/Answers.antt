use Rattle.std.proofs.Common.{◌<◌, ◌^◌, get_or, arith}
use Rattle.span_state.proofs.Words.{free_answer, word_more}
use Rattle.span_state.proofs.body.Body.next_free.Goals as goal

pub returns-then-below-lt64 : goal.returns-then-below-lt64
returns-then-below-lt64 c =
    let fits : get_or c.args.self.now.bits c.loop-word.word 0 < 2 ^ 64 = omega arith in
    rw c.then_some.ensures (free_answer _ _ _ _ c.loop-word.invariant fits c.trailing_ones-below.ensures c.if-below-lt64.true)

pub loop-word-preserved : goal.loop-word-preserved
loop-word-preserved c =
    let fits : get_or c.args.self.now.bits c.loop-word.word 0 < 2 ^ 64 = omega arith in
    word_more _ _ _ c.loop-word.invariant fits c.trailing_ones-below.ensures c.if-below-lt64.false
