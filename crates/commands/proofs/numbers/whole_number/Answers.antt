use Rattle.std.proofs.Common.{rules, sym}
use Rattle.commands.proofs.WholeNumber.{no_whole, not_whole}
use Rattle.commands.proofs.numbers.whole_number.Goals as goal

pub returns-in_err-value : goal.returns-in_err-value
returns-in_err-value c =
    let none = no_whole _ c.in_err-value.ensures in
    search (rules, none)

pub returns-else-is_empty : goal.returns-else-is_empty
returns-else-is_empty c = not_whole _ _ _ c.in_ok-value.ensures (sym c.if-is_empty.ensures)
