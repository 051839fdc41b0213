-- Which of ten rules a report breaks first, and which of its lines is the first that breaks it.
use Rattle.std.specs.Prelude.{◌≡◌, ℕ, ◌+◌, ◌<◌, ◌≤◌, List, Option, Some, None, ◌⊎◌, Result}
use Rattle.std.specs.List.{slice_get}
use Rattle.trace_reader.specs.declared.trace.Trace.{Trace}
use Rattle.cycle_history.specs.declared.Answer.{Answer}
use Rattle.cycle_history.specs.declared.Answer.TheVariants.{Placed, Zero, Missed}
use Rattle.cycle_history.specs.declared.Report.{Report}
use Rattle.cycle_history.specs.Objects.{Object}
use Rattle.cycle_history.specs.Broken.{MeetsRules}
use Rattle.report_check.specs.Lines.{answer_at, IsLeast}
use Rattle.report_check.specs.Broken.{IsBroken}
use Rattle.report_check.specs.declared.fault.CheckFault.{CheckFault}
use Rattle.report_check.specs.Fault.{IsJudged, MeetsChecked, Names}
use Rattle.cycle_history.specs.declared.versions.TheConstants.{TINY_VERSION}
use Rattle.tiny_alloc.specs.declared.base.Based.{Based}
use Rattle.tiny_alloc.specs.declared.part.Part.TheVariants.{Ride}
use Rattle.tiny_alloc.specs.Riders.{part_at}
use Rattle.tiny_alloc.specs.Base.{IsBase}
use Rattle.tiny_alloc.specs.Sound.{based_report, IsSoundTiny}

-- The address that an answer gives.
abbrev pub address_of : Option Answer → Option ℕ
address_of None = None
address_of (Some (Placed address)) = Some address
address_of (Some Zero) = None
address_of (Some (Missed line)) = None

-- The address of an object, if it is placed.
abbrev pub placed_at : List Answer → ℕ → Option ℕ
placed_at answers i = address_of (slice_get answers i)

-- Object i stands in the block of a lead, behind so many bytes: the lead is placed, and the object's address is that of the lead plus
-- the offset.
pub record IsRidingAt (answers : List Answer) (i lead offset : ℕ) : Type 0 where
  pub address : ℕ
  pub begins : slice_get answers lead ≡ Some (Placed address)
  pub stands : slice_get answers i ≡ Some (Placed (address + offset))

-- Rule 10 is broken by the line of a rider that doesn't stand where it rides.
pub record BreaksRiding (t : Trace) (answers : List Answer) (line : ℕ) : Type 0 where
  pub object : ℕ
  pub lead : ℕ
  pub offset : ℕ
  pub rides : part_at t answers object ≡ Ride lead offset
  pub wrong : ¬ IsRidingAt answers object lead offset
  pub stands : line ≡ answer_at object

-- The rules 2 to 9 are those of the base. Its report has as many lines as the report itself, in the same places.
pub record IsBrokenBase (t : Trace) (report : Report) (rule line : ℕ) : Type 0 where
  pub late : 2 ≤ rule
  pub answered : MeetsRules 1 t report
  pub based : Based
  pub base : IsBase t report.answers based
  pub broken : IsBroken based.trace (based_report report based) rule line

-- Rule 10 alone is broken.
pub record IsBrokenRiding (t : Trace) (report : Report) (line : ℕ) : Type 0 where
  pub answered : MeetsRules 1 t report
  pub based : Based
  pub base : IsBase t report.answers based
  pub sound : MeetsChecked based.trace (based_report report based)
  pub first : IsLeast (BreaksRiding t report.answers) line

-- The first rule that a report of a trace with tiny objects breaks, and the first line that breaks it. Rule 1 is that of the trace
-- itself.
abbrev pub IsBrokenTiny : Trace → Report → ℕ → ℕ → Type 0
IsBrokenTiny t report rule line = ((rule ≡ 1) × IsBroken t report 1 line) ⊎ (IsBrokenBase t report rule line ⊎ ((rule ≡ 10) × IsBrokenRiding t report line))

-- A refusal names that rule and that line, or says that memory ran out.
abbrev pub IsFaultTiny : Trace → Report → CheckFault → Type 0
IsFaultTiny t report fault = Names (IsBrokenTiny t report) fault

-- A report of a trace with tiny objects is sound, by its base and some objects of the base with their seats.
abbrev pub MeetsTiny : Trace → Report → Type 0
MeetsTiny t report = (based : Based) × (objects : List Object) × IsSoundTiny t report based objects

-- The judge's answer by the ten rules.
abbrev pub IsJudgedTiny : Trace → Report → Result (Unit {0}) CheckFault → Type 0
IsJudgedTiny t report answer = IsJudged (MeetsTiny t report) (IsBrokenTiny t report) answer

-- A report meets the rules of its trace's version: a trace has tiny objects from version 3 on.
pub record MeetsVersion (t : Trace) (report : Report) : Type 0 where
  pub plain : t.header.version < TINY_VERSION → MeetsChecked t report
  pub tiny : TINY_VERSION ≤ t.header.version → MeetsTiny t report

-- The first rule of its trace's version that a report breaks, and the first line that breaks it.
pub record BreaksVersion (t : Trace) (report : Report) (rule line : ℕ) : Type 0 where
  pub plain : t.header.version < TINY_VERSION → IsBroken t report rule line
  pub tiny : TINY_VERSION ≤ t.header.version → IsBrokenTiny t report rule line

-- The judge's answer by the rules of the trace's version.
abbrev pub IsJudgedByVersion : Trace → Report → Result (Unit {0}) CheckFault → Type 0
IsJudgedByVersion t report answer = IsJudged (MeetsVersion t report) (BreaksVersion t report) answer
