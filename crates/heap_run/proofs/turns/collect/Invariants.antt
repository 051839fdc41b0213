use Rattle.std.proofs.Common.{◌≡◌, ◌++◌, take}
use Rattle.heap_run.proofs.turns.collect.Given as goal

abbrev pub invariant-loop-note : goal.invariant-loop-note
invariant-loop-note l = l.notes.items ≡ l.initial.notes.items ++ take l.note-index l.more
