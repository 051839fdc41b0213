use Rattle.std.proofs.Common.{◌≡◌, ◌+◌, drop}
use Rattle.std.specs.List.{prefix_len}
use Rattle.sweep_generation.proofs.Runs.{is_of}
use Rattle.sweep_generation.proofs.tries_next.count_named.Given as goal

abbrev pub invariant-loop-i : goal.invariant-loop-i
invariant-loop-i l = prefix_len (is_of l.page l.allocated.items) l.marks ≡ l.i + prefix_len (is_of l.page l.allocated.items) (drop l.i l.marks)
