use Rattle.std.proofs.Common.{◌≡◌, ◌*◌, ◌^◌, ◌≤◌, take}
use Rattle.std.specs.List.{sum_by}
use Rattle.commands.specs.Summary.{dead_at}
use Rattle.commands.proofs.sums.sampled_dead.Given as goal

abbrev pub invariant-loop-line : goal.invariant-loop-line
invariant-loop-line l = record { so_far : l.sum ≡ sum_by (dead_at l.mark) (take l.line-index l.profile); fits : l.sum ≤ l.line-index * 2 ^ 64 }
