use Rattle.std.proofs.Common.{arith}
use Rattle.span_table_tests.proofs.first_cycle.large.Goals as goal

pub note_alloc-requires-clause-free : goal.note_alloc-requires-clause-free
note_alloc-requires-clause-free g c = record { inside = (let s = c.in-Ok.body.some_object in omega arith); free = c.in-Ok.ensures.is_new.empty 0; lowest = λ j l. absurd (omega arith) }
