-- A report that was judged.
use Rattle.std.specs.Prelude.{ℕ, List, Option}
use Rattle.trace_reader.specs.declared.trace.Trace.{Trace}
use Rattle.cycle_history.specs.declared.Report.{Report}
use Rattle.commands.specs.declared.stop.Stop.{Stop}
use Rattle.commands.specs.declared.stop.Stop.TheVariants.{Trace as OfTrace, Report as OfReport, Verdict as OfVerdict}
use Rattle.commands.specs.declared.stop.Verdict.{Verdict}
use Rattle.commands.specs.declared.stop.Verdict.TheVariants.{Broken, NoMemory}
use Rattle.commands.specs.Pair.{ReadsPair, Refuses}

-- The verdict tells a rule and a line that break the report, unless memory ran out.
abbrev pub Judges : (ℕ → ℕ → Type 0) → Verdict → Type 0
Judges broken (Broken rule line) = broken rule line
Judges broken NoMemory = Unit {0}

-- A trace and a sound report of it were read, and nothing is left.
abbrev pub IsSound : (Trace → Report → Type 0) → Option (List ℕ) → Option (List ℕ) → Type 0
IsSound sound left left' = (trace : Trace) × (report : Report) × ReadsPair left left' trace report × sound trace report

-- Why the report is not said to be sound: the trace or the report is refused, or both were read and the report is broken.
abbrev pub Stops : (Trace → Report → ℕ → ℕ → Type 0) → Option (List ℕ) → Option (List ℕ) → Stop → Type 0
Stops broken left left' (OfTrace fault) = Refuses left (OfTrace fault)
Stops broken left left' (OfReport fault) = Refuses left (OfReport fault)
Stops broken left left' (OfVerdict verdict) = (trace : Trace) × (report : Report) × ReadsPair left left' trace report × Judges (broken trace report) verdict
