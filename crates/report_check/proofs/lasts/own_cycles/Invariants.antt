use Rattle.std.proofs.Common.{◌≡◌, map, take}
use Rattle.report_check.specs.declared.items.Item.{Item}
use Rattle.report_check.proofs.lasts.own_cycles.Given as goal

-- the cycles of the items so far
abbrev pub invariant-loop-item : goal.invariant-loop-item
invariant-loop-item l = l.cycles.items ≡ map (λ (item : Item). item.cycle) (take l.item-index l.items)
