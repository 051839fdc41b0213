use Rattle.std.proofs.Common.{◌≡◌, ◌++◌, take}
use Rattle.heap_run.proofs.sorting.file_notes.Given as goal

abbrev pub invariant-loop-note : goal.invariant-loop-note
invariant-loop-note l = l.sweeps ≡ l.initial.sweeps ++ take l.note-index l.note-items
