-- A report that meets the rules is sound.
use Rattle.std.proofs.Common.{List, arith}
use Rattle.trace_reader.specs.declared.trace.Trace.{Trace}
use Rattle.cycle_history.specs.declared.Report.{Report}
use Rattle.cycle_history.specs.Objects.{Object}
use Rattle.cycle_history.specs.Sound.{IsSound}
use Rattle.cycle_history.specs.Broken.{MeetsUpTo}

-- ---- the end

-- a report that meets all nine rules is sound
pub meets-sound : (t : Trace) (report : Report) (objects : List Object) → MeetsUpTo 9 t report objects → IsSound t report objects
meets-sound t report objects rules = record {
  answers = rules.answers (omega arith);
  journal = rules.journal (omega arith);
  misses = rules.misses (omega arith);
  places = rules.places (omega arith);
  apart = rules.apart (omega arith);
  filling = rules.filling (omega arith);
  sweeps = rules.sweeps (omega arith);
  totals = rules.totals (omega arith);
  profile = rules.profile (omega arith);
}
