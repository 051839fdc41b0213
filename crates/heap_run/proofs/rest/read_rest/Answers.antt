use Rattle.std.proofs.Common.{◌≡◌, ℕ, ◌-◌, ap, eq-eqb}
use Rattle.cycle_history.specs.Requests.{last_cycle}
use Rattle.heap_run.proofs.rest.read_rest.Goals as goal

pub journal_copy-requires-clause-drives : goal.journal_copy-requires-clause-drives
journal_copy-requires-clause-drives c = eq-eqb c.args.driver.now.number 69 c.requires.driver

pub returns-clause-lines : goal.returns-clause-lines
returns-clause-lines c =
    let last : c.len.result - 1 ≡ last_cycle c.args.trace.now = ap (λ (n : ℕ). n - 1) c.len.ensures in
    rw last at c.in_ok-read_last.ensures.lines
