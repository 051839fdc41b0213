use Rattle.std.proofs.Common.{◌≡◌, ◌+◌, ◌≤◌, length}
use mathlib.Core.Option.{some}
use lib.ListN.{get_elem?}
use Rattle.span_table.specs.declared.view.Item.TheVariants.{Heap}
use Rattle.span_table.proofs.shared.first_items.Given as goal

abbrev pub invariant-loop : goal.invariant-loop
invariant-loop l = (length l.items.items ≡ l.counter + 1) × (get_elem? l.items.items 0 ≡ some (Heap l.fn.heap)) × (l.counter ≤ l.fn.pages)
