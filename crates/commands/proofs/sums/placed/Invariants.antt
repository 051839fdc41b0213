use Rattle.std.proofs.Common.{◌≡◌, ◌*◌, ◌^◌, ◌≤◌, take}
use Rattle.std.specs.List.{sum_by}
use Rattle.commands.specs.Summary.{one_placed}
use Rattle.commands.proofs.sums.placed.Given as goal

abbrev pub invariant-loop-answer : goal.invariant-loop-answer
invariant-loop-answer l = record { so_far : l.sum ≡ sum_by one_placed (take l.answer-index l.answers); fits : l.sum ≤ l.answer-index * 2 ^ 64 }
