-- The status and the line of a judged pair that stops without its answer.
use Rattle.std.specs.Prelude.{ℕ, List}
use Rattle.commands.specs.declared.stop.Stop.{Stop}
use Rattle.commands.specs.declared.stop.Stop.TheVariants.{Trace as OfTrace, Report as OfReport, Verdict as OfVerdict}
use Rattle.commands.specs.declared.stop.Verdict.TheVariants.{Broken, NoMemory}
use Rattle.commands.specs.Texts.{fault_status, fault_text, report_fault_text, report_status, rule_text, status_text}

-- the status of a call that stops so
abbrev pub stop_status : Stop → ℕ
stop_status (OfTrace fault) = fault_status fault
stop_status (OfReport fault) = report_status fault
stop_status (OfVerdict (Broken rule line)) = 4
stop_status (OfVerdict NoMemory) = 7

-- the line that tells so
abbrev pub stop_text : Stop → List ℕ
stop_text (OfTrace fault) = fault_text fault
stop_text (OfReport fault) = report_fault_text fault
stop_text (OfVerdict (Broken rule line)) = rule_text rule line
stop_text (OfVerdict NoMemory) = status_text 7
