-- How a call of `check` ends, by its status.
use Rattle.std.specs.Prelude.{◌≡◌, ◌≢◌, ℕ, List, [], ◌∷◌, ◌++◌, codes, Option, ◌⊎◌}
use Rattle.std.specs.Io.KnownBytes.{Appends}
use Rattle.edge_io.specs.Causes.{Rose}
use Rattle.edge_io.specs.Front.{AppendsFront}
use Rattle.trace_reader.specs.declared.fault.TraceFault.{TraceFault}
use Rattle.trace_reader.specs.declared.trace.Trace.{Trace}
use Rattle.trace_reader.specs.Told.{IsOfTrace}
use Rattle.cycle_history.specs.declared.Report.{Report}
use Rattle.report_text.specs.declared.fault.ReportFault.{ReportFault}
use Rattle.report_text.specs.Read.{IsOfReport}
use Rattle.report_check.specs.Versions.{BreaksVersion, MeetsVersion}
use Rattle.commands.specs.declared.stop.Stop.TheVariants.{Trace as OfTrace, Report as OfReport}
use Rattle.commands.specs.Judged.{IsSound}
use Rattle.commands.specs.Pair.{ArePair, BreaksOff, ReadsPair, Refuses}
use Rattle.commands.specs.Texts.{fault_text, report_fault_text, rule_text, status_text}
use Rattle.commands.specs.Told.{Tells}

-- the line and its line feed that `check` writes where the report is sound
abbrev pub check_text : List ℕ
check_text = codes "check ok" ++ 10 ∷ []

-- A trace was read, and behind it the text of a report to the end of the input, and the report breaks this rule first, of those of
-- the trace's version, at this line.
abbrev pub BreaksAt : (left left' : Option (List ℕ)) → ℕ → ℕ → Type 0
BreaksAt left left' rule line = (trace : Trace) × (report : Report) × ReadsPair left left' trace report × BreaksVersion trace report rule line

-- What each status says of the input, of the output and of what is told on the errors. `left`, `held` and `shown` give
-- the bytes of the three streams where they tell them, and `reads`, `writes` and `tells` count their faults.
pub record Checked {S K E : Type 0} (left : S → Option (List ℕ)) (reads : S → ℕ) (held : K → Option (List ℕ)) (writes : K → ℕ)
    (shown : E → Option (List ℕ)) (tells : E → ℕ) (input input' : S) (output output' : K) (errors errors' : E) (status : ℕ) : Type 0 where
  pub ends : (status ≡ 0) ⊎ (status ≡ 3) ⊎ (status ≡ 4) ⊎ (status ≡ 5) ⊎ (status ≡ 6) ⊎ (status ≡ 7)
  -- 0: a trace and a report that meets the rules were read to the end of the input, and the line was written
  pub answered : status ≡ 0 → IsSound MeetsVersion (left input) (left input') × Appends (held output) (held output') check_text
  pub silent : status ≡ 0 → errors' ≡ errors
  -- 3: the line on the errors tells a fault of the trace, which its bytes have where they are told
  pub refused : status ≡ 3 → (fault : TraceFault) × IsOfTrace fault × Refuses (left input) (OfTrace fault) × Tells shown tells errors errors' (fault_text fault)
  -- 4: it tells a fault of the report's text, or the first rule that the report breaks, with its first line
  pub broken : status ≡ 4 → ((fault : ReportFault) × IsOfReport fault × Refuses (left input) (OfReport fault) × Tells shown tells errors errors' (report_fault_text fault))
      ⊎ ((rule : ℕ) × (line : ℕ) × BreaksAt (left input) (left input') rule line × Tells shown tells errors errors' (rule_text rule line))
  -- 5: a read failed, and nothing was wrong before
  pub read_fault : status ≡ 5 → Rose (reads input) (reads input')
  pub broken_off : status ≡ 5 → BreaksOff (left input) (left input')
  -- 6: a write failed, and a front of the line was written
  pub write_fault : status ≡ 6 → Rose (writes output) (writes output')
  pub partly_written : status ≡ 6 → IsSound MeetsVersion (left input) (left input') × AppendsFront (held output) (held output') check_text
  -- any other status: nothing was written, and the line on the errors is the status's
  pub unwritten : status ≢ 0 → status ≢ 6 → output' ≡ output
  pub told : status ≢ 0 → status ≢ 3 → status ≢ 4 → Tells shown tells errors errors' (status_text status)
  -- where no read and no write fails, the trace or the report is refused, or the line is written, unless memory runs out
  pub complete : (Rose (reads input) (reads input') → ⊥) → (Rose (writes output) (writes output') → ⊥) → (status ≡ 0) ⊎ (status ≡ 3) ⊎ (status ≡ 4) ⊎ (status ≡ 7)

-- Where the bytes are a trace and behind it the text of a sound report, the line is written, unless memory runs out.
abbrev pub AcceptsSound : List ℕ → ℕ → Type 0
AcceptsSound bytes status = (trace : Trace) (report : Report) → ArePair bytes trace report → MeetsVersion trace report → (status ≡ 0) ⊎ (status ≡ 7)
