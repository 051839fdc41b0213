use Rattle.std.proofs.Common.{◌≡◌, ◌*◌, ◌^◌, ◌≤◌, take}
use Rattle.std.specs.List.{sum_by}
use Rattle.commands.specs.Summary.{mallocs_of}
use Rattle.commands.proofs.sums.mallocs.Given as goal

abbrev pub invariant-loop-total : goal.invariant-loop-total
invariant-loop-total l = record { so_far : l.sum ≡ sum_by mallocs_of (take l.total-index l.totals); fits : l.sum ≤ l.total-index * 2 ^ 64 }
