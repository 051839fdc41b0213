use Rattle.std.proofs.Common.{◌≡◌, drop}
use Rattle.sweep_lists.proofs.numbers.Numbers.clear.Given as goal

abbrev pub invariant-loop : goal.invariant-loop
invariant-loop l = l.self ≡ record l.initial.self { items = drop l.counter l.initial.self.items }
