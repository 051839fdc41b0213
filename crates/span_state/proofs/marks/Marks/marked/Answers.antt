use Rattle.std.proofs.Common.{◌≡◌, ◌+◌, ◌*◌, ◌/◌, ◌%◌, ap, ◌∙◌, arith}
use Rattle.span_state.specs.MarkSet.{is_marked}
use Rattle.span_state.proofs.Added.{bit_test}
use Rattle.span_state.proofs.marks.Marks.marked.Goals as goal

pub returns : goal.returns
returns c =
    let place : 64 * (c.args.index / 64) + c.args.index % 64 ≡ c.args.index = omega arith in
    bit_test c.word.result (c.args.index % 64) (omega arith) ∙ c.word.ensures.bits (c.args.index % 64) (omega arith)
    ∙ ap (is_marked c.args.self.now c.args.page) place
