use Rattle.std.proofs.Common.{rules, sym}
use Rattle.trace_reader.proofs.Forms.{heap_procs, heap_rate, heap_seed, heap_goal, heap_end, not_empty}
use Rattle.trace_reader.proofs.statement.heap_form.Goals as goal

pub returns-in_err-procs : goal.returns-in_err-procs
returns-in_err-procs c =
    let none = heap_procs _ _ _ c.in_ok-chunks.ensures c.in_err-procs.ensures in
    search (rules, none)

pub returns-in_err-rate : goal.returns-in_err-rate
returns-in_err-rate c =
    let none = heap_rate _ _ _ _ _ c.in_ok-chunks.ensures c.in_ok-procs.ensures c.in_err-rate.ensures in
    search (rules, none)

pub returns-in_err-seed : goal.returns-in_err-seed
returns-in_err-seed c =
    let none = heap_seed _ _ _ _ _ _ _ c.in_ok-chunks.ensures c.in_ok-procs.ensures c.in_ok-rate.ensures c.in_err-seed.ensures in
    search (rules, none)

pub returns-in_err-goal : goal.returns-in_err-goal
returns-in_err-goal c =
    let none = heap_goal _ _ _ _ _ _ _ _ _ c.in_ok-chunks.ensures c.in_ok-procs.ensures c.in_ok-rate.ensures c.in_ok-seed.ensures c.in_err-goal.ensures in
    search (rules, none)

pub returns-then-not-is_empty : goal.returns-then-not-is_empty
returns-then-not-is_empty c =
    let none = heap_end _ _ _ _ _ _ _ _ _ _ _ c.in_ok-chunks.ensures c.in_ok-procs.ensures c.in_ok-rate.ensures c.in_ok-seed.ensures c.in_ok-goal.ensures (not_empty _ (sym c.if-not-is_empty.ensures)) in
    search (rules, none)
