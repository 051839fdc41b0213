use Rattle.std.proofs.Common.{◌≡◌, ◌*◌, ◌^◌, ◌≤◌, take}
use Rattle.std.specs.List.{sum_by}
use Rattle.commands.specs.Summary.{objects_asked}
use Rattle.commands.proofs.sums.objects.Given as goal

abbrev pub invariant-loop-cycle : goal.invariant-loop-cycle
invariant-loop-cycle l = record { so_far : l.sum ≡ sum_by objects_asked (take l.cycle-index l.cycles); fits : l.sum ≤ l.cycle-index * 2 ^ 64 }
