use Rattle.std.proofs.Common.{rules, sym}
use Rattle.trace_reader.proofs.Forms.{alloc_size, alloc_kind, alloc_stack, alloc_end, not_empty}
use Rattle.trace_reader.proofs.statement.alloc_form.Goals as goal

pub returns-in_err-size : goal.returns-in_err-size
returns-in_err-size c =
    let none = alloc_size _ _ _ c.in_ok-proc.ensures c.in_err-size.ensures in
    search (rules, none)

pub returns-in_err-scan : goal.returns-in_err-scan
returns-in_err-scan c =
    let none = alloc_kind _ _ _ _ _ c.in_ok-proc.ensures c.in_ok-size.ensures c.in_err-scan.ensures in
    search (rules, none)

pub returns-in_err-stack : goal.returns-in_err-stack
returns-in_err-stack c =
    let none = alloc_stack _ _ _ _ _ _ _ c.in_ok-proc.ensures c.in_ok-size.ensures c.in_ok-scan.ensures c.in_err-stack.ensures in
    search (rules, none)

pub returns-then-not-is_empty : goal.returns-then-not-is_empty
returns-then-not-is_empty c =
    let none = alloc_end _ _ _ _ _ _ _ _ _ c.in_ok-proc.ensures c.in_ok-size.ensures c.in_ok-scan.ensures c.in_ok-stack.ensures (not_empty _ (sym c.if-not-is_empty.ensures)) in
    search (rules, none)
