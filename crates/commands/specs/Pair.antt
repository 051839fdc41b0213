-- A trace, and directly behind it a report.
use Rattle.std.specs.Prelude.{◌≡◌, ℕ, ◌≤◌, List, ◌++◌, length, Option, Some, Result, IsErrOf}
use Rattle.std.specs.Io.KnownBytes.{Consumes, IsAtEnd}
use Rattle.edge_io.specs.Causes.{Rose}
use Rattle.edge_io.specs.Line.{IsLine}
use Rattle.edge_io.specs.Text.{text}
use Rattle.trace_reader.specs.declared.trace.Trace.{Trace}
use Rattle.trace_reader.specs.declared.fault.TraceFault.TheVariants.{ReadFault as TraceReadFault}
use Rattle.trace_reader.specs.Limits.{Spells}
use Rattle.trace_reader.specs.Refused.{IsTraceFault}
use Rattle.trace_reader.specs.BrokenOff.{EndsEarly}
use Rattle.trace_reader.specs.Told.{IsOfTrace}
use Rattle.cycle_history.specs.declared.Report.{Report}
use Rattle.report_text.specs.declared.fault.ReportFault.{ReportFault}
use Rattle.report_text.specs.declared.fault.ReportFault.TheVariants.{ReadFault as ReportReadFault}
use Rattle.report_text.specs.Read.{IsOfReport, IsText}
use Rattle.report_text.specs.Refusal.{IsRefusal}
use Rattle.commands.specs.declared.pair.TheConstants.{REPORT_BYTES}
use Rattle.commands.specs.declared.stop.Stop.{Stop}
use Rattle.commands.specs.declared.stop.Stop.TheVariants.{Trace as OfTrace, Report as OfReport, Verdict as OfVerdict}

-- The bytes spell a trace, and behind it stands the text of a report of at most 4294967296 bytes.
pub record ArePair (bytes : List ℕ) (trace : Trace) (report : Report) : Type 0 where
  pub front : List ℕ
  pub rest : List ℕ
  pub split : bytes ≡ front ++ rest
  pub spelled : Spells front trace
  pub text : IsText rest report
  pub room : length rest ≤ REPORT_BYTES

-- The bytes that were read are those, and nothing is left.
abbrev pub ReadsPair : Option (List ℕ) → Option (List ℕ) → Trace → Report → Type 0
ReadsPair left left' trace report = (bytes : List ℕ) × Consumes left left' bytes × IsAtEnd left' × ArePair bytes trace report

-- A whole trace stands at the front of the bytes, and this is the refusal of what stands behind it.
pub record IsReportFault (bytes : List ℕ) (fault : ReportFault) : Type 0 where
  pub front : List ℕ
  pub rest : List ℕ
  pub split : bytes ≡ front ++ rest
  pub trace : Trace
  pub spelled : Spells front trace
  pub refusal : IsRefusal 0 REPORT_BYTES rest fault

-- Where the source told its bytes, a fault that is not the source's or memory's is theirs. Nothing was judged yet.
abbrev pub Refuses : Option (List ℕ) → Stop → Type 0
Refuses left (OfTrace fault) = IsOfTrace fault → (bytes : List ℕ) → left ≡ Some bytes → IsTraceFault bytes fault
Refuses left (OfReport fault) = IsOfReport fault → (bytes : List ℕ) → left ≡ Some bytes → IsReportFault bytes fault
Refuses left (OfVerdict verdict) = ⊥

-- A read fault is told only where the count rose.
pub record HasReadCause {T : Type 0} (before now : ℕ) (result : Result T Stop) : Type 0 where
  pub later : before ≤ now
  pub in_trace : IsErrOf result (OfTrace TraceReadFault) → Rose before now
  pub in_report : IsErrOf result (OfReport ReportReadFault) → Rose before now

-- The source failed.
abbrev pub IsReadFault : Stop → Type 0
IsReadFault (OfTrace TraceReadFault) = Unit {0}
IsReadFault (OfTrace fault) = ⊥
IsReadFault (OfReport ReportReadFault) = Unit {0}
IsReadFault (OfReport fault) = ⊥
IsReadFault (OfVerdict verdict) = ⊥

-- A whole trace stands at the front of the bytes, and behind it lines with which a report's text begins, and then a line or a
-- front of one that nothing has ended.
pub record IsUnendedReport (bytes : List ℕ) : Type 0 where
  pub front : List ℕ
  pub rest : List ℕ
  pub split : bytes ≡ front ++ rest
  pub trace : Trace
  pub spelled : Spells front trace
  pub lines : List (List ℕ)
  pub line : List ℕ
  pub ends : rest ≡ text lines ++ line
  pub begins : (report : Report) × (more : List ℕ) × IsText (text lines ++ more) report
  pub is_line : IsLine line
  pub room : length rest ≤ REPORT_BYTES

-- Nothing is wrong with what the source gave before a read failed but that it ends there: in a line of the trace, or in one
-- of the report behind it.
abbrev pub BreaksOff : Option (List ℕ) → Option (List ℕ) → Type 0
BreaksOff left left' = EndsEarly IsUnendedReport left left'
