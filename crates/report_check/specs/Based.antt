-- The base of a report, by which the rules 2 to 9 are tried.
use Rattle.std.specs.Prelude.{◌≡◌}
use Rattle.trace_reader.specs.declared.trace.Trace.{Trace}
use Rattle.cycle_history.specs.declared.Report.{Report}
use Rattle.tiny_alloc.specs.declared.base.Based.{Based}
use Rattle.tiny_alloc.specs.Base.{IsBase}
use Rattle.report_check.specs.declared.tiny.based.BaseReport.{BaseReport}
use Rattle.report_check.specs.Answered.{IsAnswered}

-- The trace has its answers, and these are the base of the trace with them, the answers of the base, and the riders.
pub record IsBaseReport (t : Trace) (report : Report) (base : BaseReport) : Type 0 where
  pub answered : IsAnswered t report
  pub based : Based
  pub is : IsBase t report.answers based
  pub trace : base.trace ≡ based.trace
  pub answers : base.answers ≡ based.answers
  pub riders : base.riders ≡ based.riders
