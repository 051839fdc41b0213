-- What the parts of a judging say, each judged by itself.
use Rattle.std.specs.Prelude.{◌≡◌, ℕ, List, length, Some, Result, IfOk, IfErr, OnOk, ◌⊎◌}
use Rattle.std.specs.Global.{Vec}
use Rattle.std.specs.List.{slice_get}
use Rattle.fallible_list.specs.declared.list.NoMemory.{NoMemory}
use Rattle.trace_reader.specs.declared.trace.Trace.{Trace}
use Rattle.cycle_history.specs.declared.Report.{Report}
use Rattle.cycle_history.specs.Objects.{Object}
use Rattle.cycle_history.specs.Requests.{last_cycle, marked_by}
use Rattle.cycle_history.specs.Rules.{AreApart, AreFilled, AreMissed}
use Rattle.cycle_history.specs.Sound.{HasAnswers, HasJournal, HasProfile, past_in}
use Rattle.cycle_history.specs.Sweeps.{AreSwept, AreTotals}
use Rattle.report_check.specs.Answers.{BreaksJournal, BreaksMisses}
use Rattle.report_check.specs.Placing.{BreaksApart, BreaksFilling}
use Rattle.report_check.specs.Closing.{BreaksSweeps, BreaksTotals}
use Rattle.report_check.specs.Published.{BreaksProfile}
use Rattle.report_check.specs.declared.fault.CheckFault.{CheckFault}
use Rattle.report_check.specs.declared.items.Item.{Item}
use Rattle.report_check.specs.declared.piece.Piece.{Piece}
use Rattle.report_check.specs.Fault.{IsFaultOf}
use Rattle.report_check.specs.Items.{objects_of}
use Rattle.report_check.specs.Lasts.{AreLasts}
use Rattle.report_check.specs.Pieces.{seen_by}
use Rattle.report_check.specs.Sweeping.{AllMayGive, AllSwept, AreRightTo}
use Rattle.check_parallel.specs.declared.pieces.Verdict.{Verdict}
use Rattle.check_parallel.specs.declared.settled.Lived.{Lived}
use Rattle.check_parallel.specs.Verdicts.{AnswersRule}

-- A fault of one part, or of a later one where the first is met.
abbrev pub FailsInTurn : (CheckFault → Type 0) → Type 0 → (CheckFault → Type 0) → CheckFault → Type 0
FailsInTurn early met late fault = early fault ⊎ (met × late fault)

-- The last cycles are those of the items of whichever report.
abbrev pub AreLastsOf : Trace → Result (Vec ℕ) NoMemory → Type 0
AreLastsOf t answer = IfOk answer (λ lasts. (report : Report) (items : List Item) → HasAnswers t report (objects_of items) → AreLasts t items lasts.items)

-- Rule 3.
abbrev pub MeetsMisses : Report → List Item → Type 0
MeetsMisses report items = AreMissed (past_in report) (objects_of items)

abbrev pub FaultOfMisses : Report → List Item → CheckFault → Type 0
FaultOfMisses report items = IsFaultOf 3 (BreaksMisses (past_in report) (objects_of items))

abbrev pub IsMissesJudged : Report → List Item → Result (Unit {0}) CheckFault → Type 0
IsMissesJudged report items answer = OnOk answer (MeetsMisses report items) × IfErr answer (FaultOfMisses report items)

-- Rule 5, of these items.
abbrev pub MeetsApart : Trace → List Item → Type 0
MeetsApart t items = AreApart (marked_by t) (objects_of items)

abbrev pub FaultOfApart : Trace → List Item → CheckFault → Type 0
FaultOfApart t items = IsFaultOf 5 (BreaksApart (marked_by t) (objects_of items))

abbrev pub IsApartJudged : Trace → List Item → Result (Unit {0}) CheckFault → Type 0
IsApartJudged t items answer = AnswersRule 5 (MeetsApart t items) (BreaksApart (marked_by t) (objects_of items)) answer

-- Rule 6, of these items.
abbrev pub MeetsFilling : Trace → List Item → Type 0
MeetsFilling t items = AreFilled (marked_by t) (objects_of items)

abbrev pub FaultOfFilling : Trace → List Item → CheckFault → Type 0
FaultOfFilling t items = IsFaultOf 6 (BreaksFilling (marked_by t) (objects_of items))

abbrev pub IsFillingJudged : Trace → List Item → Result (Unit {0}) CheckFault → Type 0
IsFillingJudged t items answer = AnswersRule 6 (MeetsFilling t items) (BreaksFilling (marked_by t) (objects_of items)) answer

-- The rules 5 and 6.
abbrev pub MeetsInside : Trace → List Item → Type 0
MeetsInside t items = MeetsApart t items × MeetsFilling t items

abbrev pub FaultOfInside : Trace → List Item → CheckFault → Type 0
FaultOfInside t items = FailsInTurn (FaultOfApart t items) (MeetsApart t items) (FaultOfFilling t items)

abbrev pub IsInsideJudged : Trace → List Item → Result (Unit {0}) CheckFault → Type 0
IsInsideJudged t items answer = OnOk answer (MeetsInside t items) × IfErr answer (FaultOfInside t items)

-- The rules 3, 5 and 6.
abbrev pub IsEarlyJudged : Trace → Report → List Item → Result (Unit {0}) CheckFault → Type 0
IsEarlyJudged t report items answer = OnOk answer (MeetsMisses report items × MeetsInside t items) × IfErr answer (FailsInTurn (FaultOfMisses report items) (MeetsMisses report items) (FaultOfInside t items))

-- A piece's answers to the rules 5 and 6.
pub record IsVerdict (t : Trace) (items : List Item) (piece : Piece) (verdict : Verdict) : Type 0 where
  pub apart : IsApartJudged t (seen_by piece items) verdict.apart
  pub filling : IsFillingJudged t (seen_by piece items) verdict.filling

-- Each piece's answers stand at its number.
abbrev pub AreVerdicts : Trace → List Item → List Verdict → Type 0
AreVerdicts t items verdicts = (k : ℕ) (verdict : Verdict) → slice_get verdicts k ≡ Some verdict → IsVerdict t items (record { number = k; count = length verdicts }) verdict

-- Rule 7.
abbrev pub MeetsSweeps : Trace → Report → List Item → Type 0
MeetsSweeps t report items = AreSwept (marked_by t) (last_cycle t) (past_in report) (objects_of items) report.sweeps

abbrev pub FaultOfSweeps : Trace → Report → List Item → CheckFault → Type 0
FaultOfSweeps t report items = IsFaultOf 7 (BreaksSweeps (marked_by t) (last_cycle t) report (objects_of items))

abbrev pub IsSweepsJudged : Trace → Report → List Item → Result (Unit {0}) CheckFault → Type 0
IsSweepsJudged t report items answer = OnOk answer (MeetsSweeps t report items) × IfErr answer (FaultOfSweeps t report items)

-- Rule 7 as far as the Gives tell it, whatever the objects are.
abbrev pub IsGivesJudged : Trace → Report → Result (Unit {0}) CheckFault → Type 0
IsGivesJudged t report answer = OnOk answer (AllMayGive report) × IfErr answer (λ fault. (objects : List Object) → IsFaultOf 7 (BreaksSweeps (marked_by t) (last_cycle t) report objects) fault)

-- As far as the sweeps tell it, where the Gives are right.
abbrev pub MeetsNotes : Trace → Report → List Item → Type 0
MeetsNotes t report items = AreRightTo t report (objects_of items) (length report.sweeps)

abbrev pub IsNotesJudged : Trace → Report → List Item → Result (Unit {0}) CheckFault → Type 0
IsNotesJudged t report items answer = OnOk answer (MeetsNotes t report items) × IfErr answer (λ fault. AllMayGive report → FaultOfSweeps t report items fault)

-- As far as the lives tell it, where the Gives and the sweeps are right, whatever the objects are.
abbrev pub IsLivesJudged : Trace → Report → Result (Unit {0}) CheckFault → Type 0
IsLivesJudged t report answer = OnOk answer (AllSwept t report)
    × IfErr answer (λ fault. (objects : List Object) → AllMayGive report → AreRightTo t report objects (length report.sweeps) → IsFaultOf 7 (BreaksSweeps (marked_by t) (last_cycle t) report objects) fault)

-- What the journal and the sweeps say of rule 7 by themselves.
pub record IsLived (t : Trace) (report : Report) (lived : Lived) : Type 0 where
  pub gives : IsGivesJudged t report lived.gives
  pub lives : IsLivesJudged t report lived.lives

-- Rule 2, and where it is met, what the journal says of rule 7.
abbrev pub IsPagesJudged : Trace → Report → Result Lived CheckFault → Type 0
IsPagesJudged t report answer = IfOk answer (λ lived. HasJournal t report × IsLived t report lived) × IfErr answer (IsFaultOf 2 (BreaksJournal t report))

-- Rule 8.
abbrev pub MeetsTotals : Trace → Report → List Item → Type 0
MeetsTotals t report items = AreTotals (marked_by t) (last_cycle t) (objects_of items) report.totals

abbrev pub FaultOfTotals : Trace → Report → List Item → CheckFault → Type 0
FaultOfTotals t report items = IsFaultOf 8 (BreaksTotals (marked_by t) (last_cycle t) report (objects_of items))

abbrev pub IsTotalsJudged : Trace → Report → List Item → Result (Unit {0}) CheckFault → Type 0
IsTotalsJudged t report items answer = OnOk answer (MeetsTotals t report items) × IfErr answer (FaultOfTotals t report items)

-- Rule 9.
abbrev pub MeetsProfile : Trace → Report → List Item → Type 0
MeetsProfile t report items = HasProfile t report (objects_of items)

abbrev pub FaultOfProfile : Trace → Report → List Item → CheckFault → Type 0
FaultOfProfile t report items = IsFaultOf 9 (BreaksProfile t report (objects_of items))

abbrev pub IsProfileJudged : Trace → Report → List Item → Result (Unit {0}) CheckFault → Type 0
IsProfileJudged t report items answer = OnOk answer (MeetsProfile t report items) × IfErr answer (FaultOfProfile t report items)

-- The rules 8 and 9.
abbrev pub MeetsCounted : Trace → Report → List Item → Type 0
MeetsCounted t report items = MeetsTotals t report items × MeetsProfile t report items

abbrev pub FaultOfCounted : Trace → Report → List Item → CheckFault → Type 0
FaultOfCounted t report items = FailsInTurn (FaultOfTotals t report items) (MeetsTotals t report items) (FaultOfProfile t report items)

abbrev pub IsCountedJudged : Trace → Report → List Item → Result (Unit {0}) CheckFault → Type 0
IsCountedJudged t report items answer = OnOk answer (MeetsCounted t report items) × IfErr answer (FaultOfCounted t report items)

-- The rules 7 to 9.
abbrev pub IsClosingJudged : Trace → Report → List Item → Result (Unit {0}) CheckFault → Type 0
IsClosingJudged t report items answer = OnOk answer (MeetsSweeps t report items × MeetsCounted t report items) × IfErr answer (FailsInTurn (FaultOfSweeps t report items) (MeetsSweeps t report items) (FaultOfCounted t report items))
