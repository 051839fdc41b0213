use Rattle.report_check.specs.Ledgers.{AddsItems}
use Rattle.report_check.proofs.ledger.add_all.Given as goal

-- the items so far are added
abbrev pub invariant-loop-number : goal.invariant-loop-number
invariant-loop-number l = AddsItems l.objects.items.now l.objects.lasts.now l.first l.number l.fn.alive.items l.alive.items l.fn.used l.used
