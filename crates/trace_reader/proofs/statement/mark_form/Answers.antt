use Rattle.std.proofs.Common.{rules, sym}
use Rattle.trace_reader.proofs.Forms.{mark_hi, mark_end, not_empty}
use Rattle.trace_reader.proofs.statement.mark_form.Goals as goal

pub returns-in_err-hi : goal.returns-in_err-hi
returns-in_err-hi c =
    let none = mark_hi _ _ _ c.in_ok-lo.ensures c.in_err-hi.ensures in
    search (rules, none)

pub returns-then-not-is_empty : goal.returns-then-not-is_empty
returns-then-not-is_empty c =
    let none = mark_end _ _ _ _ _ c.in_ok-lo.ensures c.in_ok-hi.ensures (not_empty _ (sym c.if-not-is_empty.ensures)) in
    search (rules, none)
