use Rattle.std.specs.Prelude.{◌≡◌}
use Rattle.span_table_tests.specs.Rows.{IsFreeDriver}
use Rattle.span_table_tests.proofs.table.place_all.Given as goal

abbrev pub invariant-loop-pages : goal.invariant-loop-pages
invariant-loop-pages g l = IsFreeDriver l.shared l.w × (l.w.view.generation ≡ l.fn.w.view.generation)
