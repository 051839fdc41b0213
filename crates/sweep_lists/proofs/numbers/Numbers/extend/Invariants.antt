use Rattle.std.proofs.Common.{◌≡◌, ◌++◌, take}
use Rattle.sweep_lists.proofs.numbers.Numbers.extend.Given as goal

abbrev pub invariant-loop-item : goal.invariant-loop-item
invariant-loop-item l = l.self ≡ record l.initial.self { items = l.initial.self.items ++ take l.item-index l.items }
