use Rattle.std.proofs.Common.{rules, sym}
use Rattle.trace_reader.proofs.Forms.{title_end, not_empty}
use Rattle.trace_reader.proofs.statement.title_form.Goals as goal

pub returns-then-not-is_empty : goal.returns-then-not-is_empty
returns-then-not-is_empty c =
    let none = title_end _ _ _ c.in_ok-version.ensures (not_empty _ (sym c.if-not-is_empty.ensures)) in
    search (rules, none)
