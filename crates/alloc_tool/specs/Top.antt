-- What the program promises of the bytes that it reads and writes.
use Rattle.std.specs.Prelude.{◌≡◌, ℕ, ◌⊎◌, Bool, List, Option, Some}
use Rattle.std.specs.Io.KnownBytes.{Appends}
use Rattle.edge_io.specs.Causes.{Rose}
use Rattle.edge_io.specs.Front.{AppendsFront}
use Rattle.trace_reader.specs.declared.trace.Trace.{Trace}
use Rattle.trace_reader.specs.Limits.{Spells}
use Rattle.cycle_history.specs.declared.Report.{Report}
use Rattle.tiny_alloc.specs.Versions.{HasFormByVersion, IsSoundByVersion}
use Rattle.cycle_history.specs.Text.{report_text}
use Rattle.trace_reader.specs.WholeInput.{ReadsAll}

-- a sound report of the trace that uses what it takes, by the rules of the trace's version, with the profile of each mark end or that of the last
pub record IsAnswer (each : Bool) (trace : Trace) (report : Report) : Type 0 where
  pub sound : IsSoundByVersion trace report
  pub form : HasFormByVersion trace report each

-- the text of such a report
abbrev pub IsReportText : Bool → Trace → List ℕ → Type 0
IsReportText each trace written = (report : Report) × IsAnswer each trace report × (written ≡ report_text report)

-- The bytes that were read spell a trace, and nothing is left unread. The bytes that were written are a text that answers
-- that trace.
abbrev pub AnswersAll : (Trace → List ℕ → Type 0) → (left left' held held' : Option (List ℕ)) → Type 0
AnswersAll Answers left left' held held' = (trace : Trace) × (written : List ℕ)
    × ReadsAll left left' trace × Answers trace written × Appends held held' written

-- the same, but that only a front of the text was written
abbrev pub AnswersFront : (Trace → List ℕ → Type 0) → (left left' held held' : Option (List ℕ)) → Type 0
AnswersFront Answers left left' held held' = (trace : Trace) × (written : List ℕ)
    × ReadsAll left left' trace × Answers trace written × AppendsFront held held' written

-- how a run ends: with its answer, at a refused trace, at a fault of its input or its output, or for want of memory
abbrev pub IsStatusOfRun : ℕ → Type 0
IsStatusOfRun status = (status ≡ 0) ⊎ (status ≡ 3) ⊎ (status ≡ 5) ⊎ (status ≡ 6) ⊎ (status ≡ 7)

-- the status of a run of these bytes where no read and no write failed: a trace is answered, and all else is refused,
-- unless memory runs out
pub record IsComplete (bytes : List ℕ) (status : ℕ) : Type 0 where
  pub spelled : (trace : Trace) → Spells bytes trace → (status ≡ 0) ⊎ (status ≡ 7)
  pub others : ((trace : Trace) → Spells bytes trace → ⊥) → (status ≡ 3) ⊎ (status ≡ 7)

-- the source told these bytes, and neither it nor the sink failed
pub record IsUndisturbed {S K : Type 0} (left : S → Option (List ℕ)) (source_faults : S → ℕ) (sink_faults : K → ℕ)
    (source source' : S) (sink sink' : K) (bytes : List ℕ) : Type 0 where
  pub told : left source ≡ Some bytes
  pub read : Rose (source_faults source) (source_faults source') → ⊥
  pub written : Rose (sink_faults sink) (sink_faults sink') → ⊥
