use Rattle.std.proofs.Common.{◌≡◌, length}
use Rattle.report_check.proofs.TopRows.{AreEmptyRows}
use Rattle.report_check.proofs.tops.Tops.new.Given as goal

-- the rows so far are empty
abbrev pub invariant-loop-life : goal.invariant-loop-life
invariant-loop-life l = record { count : length l.rows.items ≡ l._life; empty : AreEmptyRows l.rows.items }
