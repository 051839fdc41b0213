use Rattle.std.proofs.Common.{◌+◌, ◌++◌, sym, ◌∙◌, arith}
use Rattle.std.proofs.lemmas.Fmt.{decimal_digit}
use Rattle.std.proofs.lemmas.List.{take_more_set}
use Rattle.text_line.proofs.line.TextLine.push_digit.Goals as goal

pub returns-clause-text : goal.returns-clause-text
returns-clause-text c =
    let n = c.args.number in
    take_more_set c.self.inside.bytes c.self.inside.used (48 + n) (omega arith)
    ∙ (λ i. c.self.view_is i ++ sym (decimal_digit n c.requires.below) i)
