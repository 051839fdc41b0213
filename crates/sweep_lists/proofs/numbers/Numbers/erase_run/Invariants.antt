use Rattle.std.proofs.Common.{◌≡◌}
use Rattle.sweep_laws.specs.Lists.{erase_run}
use Rattle.sweep_lists.proofs.numbers.Numbers.erase_run.Given as goal

abbrev pub invariant-loop-k : goal.invariant-loop-k
invariant-loop-k l = l.self ≡ record l.initial.self { items = erase_run l.start l.k l.initial.self.items }
