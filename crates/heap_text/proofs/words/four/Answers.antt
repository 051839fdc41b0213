use Rattle.heap_text.proofs.Parts.{no_2, no_3, no_4}
use Rattle.heap_text.proofs.words.four.Goals as goal

pub returns-in_err-bytes : goal.returns-in_err-bytes
returns-in_err-bytes c = rw c.from_residual-in_err-bytes.ensures (no_2 _ _ _ c.in_ok-objects.ensures c.in_err-bytes.ensures)

pub returns-in_err-all_objects : goal.returns-in_err-all_objects
returns-in_err-all_objects c = rw c.from_residual-in_err-all_objects.ensures (no_3 _ _ _ _ _ c.in_ok-objects.ensures c.in_ok-bytes.ensures c.in_err-all_objects.ensures)

pub returns-in_err-all_bytes : goal.returns-in_err-all_bytes
returns-in_err-all_bytes c = rw c.from_residual-in_err-all_bytes.ensures
    (no_4 _ _ _ _ _ _ _ c.in_ok-objects.ensures c.in_ok-bytes.ensures c.in_ok-all_objects.ensures c.in_err-all_bytes.ensures)
