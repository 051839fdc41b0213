-- What is known of a report's text.
use Rattle.std.specs.Prelude.{◌≡◌, ℕ, ◌^◌, ◌<◌, ◌≤◌, List, ◌++◌, length, None}
use Rattle.cycle_history.specs.declared.Report.{Report}
use Rattle.report_text.specs.declared.item.Item.{Item}
use Rattle.report_text.specs.declared.fault.ReportFault.{ReportFault}
use Rattle.report_text.specs.Items.{AreInTurn}
use Rattle.report_text.specs.Refusal.{IsRefusal, told}
use Rattle.report_text.specs.Read.{IsText}

-- A report's text within the limit, which is one of 64 bits, has no refusal.
abbrev pub IsNotRefused : Type 0
IsNotRefused = (number room : ℕ) (bytes : List ℕ) (report : Report) (fault : ReportFault) → IsText bytes report → length bytes ≤ room → room < 2 ^ 64 → ¬ IsRefusal number room bytes fault

-- Bytes have at most one refusal.
abbrev pub IsOneRefusal : Type 0
IsOneRefusal = (number room : ℕ) (bytes : List ℕ) (fault other : ReportFault) → IsRefusal number room bytes fault → IsRefusal number room bytes other → fault ≡ other

-- Lines in turn begin the text of some report.
abbrev pub BeginsText : Type 0
BeginsText = (items : List Item) → AreInTurn None items → (report : Report) × (rest : List ℕ) × IsText (told items ++ rest) report
