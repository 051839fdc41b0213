use Rattle.std.proofs.Common.{◌≡◌, length, Some}
use Rattle.std.specs.List.{slice_get}
use Rattle.report_check.specs.declared.asked.Asked.{Asked}
use Rattle.report_check.specs.Ledgers.{IsOpenTo}
use Rattle.check_parallel.specs.Seating.{AreSeatedTo}
use Rattle.check_parallel.proofs.seating.seat_part.Given as goal

-- the items so far have their seats, and the table is of no later cycle than that of the next
abbrev pub invariant-loop-number : goal.invariant-loop-number
invariant-loop-number l = record {
  opened : (r : Asked) → slice_get l.asked l.number ≡ Some r → IsOpenTo l.trace l.report r.cycle l.opened;
  size : length l.items ≡ length l.fn.items;
  seated : AreSeatedTo l.trace l.report l.asked l.answers l.items l.number;
}
