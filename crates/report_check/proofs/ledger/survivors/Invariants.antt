use Rattle.std.proofs.Common.{◌≡◌, Bool, leb, ◌&&◌, take}
use Rattle.page_alloc.specs.Lists.{count}
use Rattle.report_check.specs.declared.ledger.Alive.{Alive}
use Rattle.report_check.proofs.ledger.survivors.Given as goal

-- those of the objects so far are kept
abbrev pub invariant-loop-object : goal.invariant-loop-object
invariant-loop-object l = (test : Alive → Bool) → count test l.kept.items ≡ count (λ (a : Alive). leb l.cycle a.last && test a) (take l.object-index l.alive)
